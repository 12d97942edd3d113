-- What means itself: a simple value but undefined, and a tag that stays over its content.
use Rattle.std.proofs.Common.{◌≡◌, ◌≢◌, ℕ, pos, negsuc, Bool, true, false, cond, ◌⊎◌, inl, inr, List, length, Option, Some, None, refl, sym, ap, subst, ◌∙◌, arith, nat_eq, nat_lt, nat_le, ◌&&◌, ◌||◌}
use Rattle.std.proofs.lemmas.Bool.{eqb-true}
use Rattle.std.specs.Option.{option_map, option_and_then}
use Rattle.ciborium_value.specs.Tree.{Tree, integer, bytes, text, array, map, tag, simple, float}
use Rattle.ciborium_value.specs.Folding.{tagged, fold_bytes, fold_number, big_endian_from, without_zeros}
use Rattle.ciborium.specs.Meaning.{meaning, simple_meaning}

pub map_some : {A B : Type 0} (f : A → B) (m : Option A) (v : B) → option_map f m ≡ Some v → (a : A) × (m ≡ Some a) × (v ≡ f a)
map_some f None v e = cc
map_some f (Some a) v e = (a, refl, cc)

pub then_some : {A B : Type 0} (f : A → Option B) (m : Option A) (v : B) → option_and_then f m ≡ Some v → (a : A) × (m ≡ Some a) × (f a ≡ Some v)
then_some f None v e = cc
then_some f (Some a) v e = (a, refl, e)

-- a simple value but undefined means itself
pub simple_kept : (n : ℕ) (v : Tree) → n ≢ 23 → simple_meaning n ≡ Some v → simple n ≡ v
simple_kept n v not e = go (nat_eq n 23) (nat_le 20 n && nat_le n 22) refl e
  where
    go : (p q : Bool) → nat_eq n 23 ≡ p → cond p (Some (simple 22)) (cond q (Some (simple n)) None) ≡ Some v → simple n ≡ v
    go true q a e = absurd (not (eqb-true n 23 a))
    go false true a e = cc
    go false false a e = cc

simple_one : (a b : ℕ) → Some (simple a) ≡ Some (simple b) → a ≡ b
simple_one a b e = cc

pub simple_not : (n : ℕ) → simple_meaning n ≡ Some (simple n) → n ≢ 23
simple_not n e is =
    let f : simple_meaning 23 ≡ Some (simple 23) = subst (λ (z : ℕ). simple_meaning z ≡ Some (simple z)) is e in
    omega (arith, simple_one 22 23 f)

-- a tag that stays over its content is over what it means, or over a byte string
over : (n : ℕ) (u t : Tree) → tagged n u ≡ Some (tag n t) → (t ≡ u) ⊎ ((c : List ℕ) × (t ≡ bytes c))
over n (integer i) t e = inl cc
over n (text i) t e = inl cc
over n (array i) t e = inl cc
over n (map i) t e = inl cc
over n (tag k i) t e = inl cc
over n (simple i) t e = inl cc
over n (float i) t e = inl cc
over n (bytes b) t e = go (nat_eq n 2 || nat_eq n 3) e
  where
    number : (m : ℕ) → fold_number n m b ≡ Some (tag n t) → (t ≡ bytes b) ⊎ ((c : List ℕ) × (t ≡ bytes c))
    number m e = in_number (nat_lt m 18446744073709551616) (nat_eq n 3 && nat_le 170141183460469231731687303715884105728 m) e
      where
        in_number : (p q : Bool) → cond p (Some (integer (cond (nat_eq n 2) (pos m) (negsuc m)))) (cond q None (Some (tag n (bytes (without_zeros b))))) ≡ Some (tag n t) → (t ≡ bytes b) ⊎ ((c : List ℕ) × (t ≡ bytes c))
        in_number true q e = cc
        in_number false true e = cc
        in_number false false e = inr (without_zeros b, cc)

    folds : (p : Bool) → cond p (fold_number n (big_endian_from 0 b) b) (Some (tag n (bytes b))) ≡ Some (tag n t) → (t ≡ bytes b) ⊎ ((c : List ℕ) × (t ≡ bytes c))
    folds true e = number (big_endian_from 0 b) e
    folds false e = inl cc

    go : (p : Bool) → cond p (fold_bytes n b) (Some (tag n (bytes b))) ≡ Some (tag n t) → (t ≡ bytes b) ⊎ ((c : List ℕ) × (t ≡ bytes c))
    go true e = folds (nat_le (length b) 16) e
    go false e = inl cc

-- a content that is over its meaning means itself
pub over_itself : (n : ℕ) (u t : Tree) → meaning t ≡ Some u → tagged n u ≡ Some (tag n t) → t ≡ u
over_itself n u t e f = go (over n u t f)
  where
    go : (t ≡ u) ⊎ ((c : List ℕ) × (t ≡ bytes c)) → t ≡ u
    go (inl is) = is
    go (inr (c, is)) = let g : Some (bytes c) ≡ Some u = ap meaning (sym is) ∙ e in cc
