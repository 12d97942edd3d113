-- Loops that take the items of a vector one after another.
use Rattle.std.proofs.Common.{◌≡◌, ◌+◌, ◌<◌, List, [], ◌∷◌, ◌++◌, length, get_or, refl, sym, ap, ◌∙◌, arith, append_assoc, length-append, vec_len, Vec, Global, subst, ◌⊎◌, inl, inr, Result, Ok, Err}
use Rattle.std.specs.Prelude.{MatchResult}
use Rattle.ciborium_value.specs.Tree.{Tree, array}
use Rattle.ciborium_value.specs.View.{views}
use Rattle.ciborium_value.specs.declared.value.Value.{Value}
use Rattle.coset_labels.specs.Converting.{GivesAll, FailsFirst, Converts, CantConvert, item_fails}
use Rattle.coset_labels.specs.declared.error.CoseError.{CoseError}
use Rattle.std.specs.declared.vec.IntoIter.{IntoIter}
use Rattle.std.specs.Vec.Iter.{into_iter_items, into_iter_len, into_iter_steps}
use Rattle.std.proofs.lemmas.Iterator.{YieldsList}
use Rattle.std.proofs.lemmas.Iterator.Adapters.{YieldsList-from_vec}

-- the iterator of a vector gives its items
pub vec_yields : {A : Type 0} (s : IntoIter A Global) (v : Vec A Global) → into_iter_items s ≡ v.items → into_iter_len s ≡ vec_len v → YieldsList (into_iter_steps {X = A} {Z = Global}) (λ y. y) s v.items
vec_yields s v a b = YieldsList-from_vec v.items a (b ∙ v.ok.0)

get_at : {A : Type 0} (xs ys : List A) (y d : A) → get_or (xs ++ y ∷ ys) (length xs) d ≡ y
get_at [] ys y d = refl
get_at (x ∷ xs) ys y d = get_at xs ys y d

turned_by : {A : Type 0} (all xs after : List A) (x : A) → all ≡ xs ++ after → (length xs < length all) × (x ≡ get_or all (length xs) x) → (ys : List A) × (all ≡ xs ++ x ∷ ys)
turned_by all xs [] x e h =
    let n : length all ≡ length (xs ++ []) = ap length e in
    let m : length (xs ++ []) ≡ length xs + 0 = length-append xs [] in
    absurd (omega (arith, n, m, h.0))
turned_by all xs (y ∷ ys) x e h =
    let same : x ≡ y = h.1 ∙ ap (λ z. get_or z (length xs) x) e ∙ get_at xs ys y x in
    (ys, e ∙ ap (λ z. xs ++ z ∷ ys) (sym same))

-- the item of a turn comes after those of the turns before it
pub turned : {A : Type 0} (all xs : List A) (x : A) → ((after : List A) × (all ≡ xs ++ after)) → (length xs < length all) × (x ≡ get_or all (length xs) x) → (ys : List A) × (all ≡ xs ++ x ∷ ys)
turned all xs x (after, e) h = turned_by all xs after x e h

pub moved : {A : Type 0} (all xs : List A) (x : A) → ((ys : List A) × (all ≡ xs ++ x ∷ ys)) → (ys : List A) × (all ≡ (xs ++ x ∷ []) ++ ys)
moved all xs x (ys, e) = (ys, e ∙ sym (append_assoc xs (x ∷ []) ys))

-- the result of one more item
gives_more : {A B E : Type 0} (R : A → Result B E → Type 0) (xs : List A) (ys : List B) (x : A) (y : B) → GivesAll R xs ys → R x (Ok y) → GivesAll R (xs ++ x ∷ []) (ys ++ y ∷ [])
gives_more R [] [] x y g h = (h, tt)
gives_more R (z ∷ zs) (w ∷ ws) x y g h = (g.0, gives_more R zs ws x y g.1 h)
gives_more R xs ys x y g h = absurd g

pub gives_pushed : {A B E : Type 0} (R : A → Result B E → Type 0) (xs : List A) (ys zs : List B) (x : A) (y : B) → zs ≡ ys ++ y ∷ [] → GivesAll R xs ys → R x (Ok y) → GivesAll R (xs ++ x ∷ []) zs
gives_pushed R xs ys zs x y e g h = subst (GivesAll R (xs ++ x ∷ [])) (sym e) (gives_more R xs ys x y g h)

pub all_converted : {B E : Type 0} (R : Value → Result B E → Type 0) (From : CoseError → E → Type 0) (M : E → Type 0) (t : Tree) (v : Vec Value Global) (r : Result (Vec B Global) E) → t ≡ array (views v.items)
    → MatchResult r (λ w. GivesAll R v.items w.items) (λ e. M e ⊎ FailsFirst R v.items e) → MatchResult r (λ w. Converts R t w.items) (λ e. M e ⊎ CantConvert R From t e)
all_converted R From M t v (Ok w) q h = record { values = v.items; is = q; given = h }
all_converted R From M t v (Err e) q (inl m) = inl m
all_converted R From M t v (Err e) q (inr w) = inr (item_fails v.items q w)
