-- Entries that a sort has put in order.
use Rattle.std.proofs.Common.{◌≡◌, ℕ, zero, suc, ◌+◌, ◌<◌, ⊎_elim, List, [], ◌∷◌, length, map, get_or, Bool, true, false, cond, refl, sym, ap, subst, ◌∙◌, arith}
use Rattle.std.specs.Cmp.{IsTotalOrder, IsStrictWeakOrder}
use Rattle.std.specs.List.{Contains, filter}
use Rattle.std.specs.List.Sorted.{IsPermutation, IsSortedBy, IsSorted, IsStableBy, ties}
use Rattle.std.specs.Ordering.{is_lt}
use Rattle.std.proofs.lemmas.Cmp.{on_total, then_total, nat_cmp_total, nat_list_cmp_total}
use Rattle.std.proofs.lemmas.List.Sorted.{IsPermutation-map, ranks_by}
use Rattle.ciborium_value.specs.Tree.{Tree}
use Rattle.ciborium_value.specs.Encoding.{enc}
use Rattle.ciborium_value.specs.declared.value.Value.{Value}
use Rattle.coset_labels.specs.Fields.{LabelFields}
use Rattle.coset_labels.specs.Labels.{label_tree}
use Rattle.coset_labels.specs.View.{label_view}
use Rattle.coset_labels.specs.declared.label.Label.{Label}
use Rattle.coset_labels.specs.declared.order.CborOrdering.{CborOrdering}
use Rattle.coset_labels.specs.declared.order.CborOrdering.TheVariants as ordering
use Rattle.coset_headers.specs.View.{entry_view}
use Rattle.coset_keys.specs.Sorted.{encoded_cmp, entry_cmp, Sorts}
use Rattle.coset_keys.proofs.Rising.{contains_cases, contains_none}

pub encoded_total : (o : CborOrdering) → IsTotalOrder (encoded_cmp o)
encoded_total ordering.Lexicographic = on_total label_tree (on_total enc nat_list_cmp_total)
encoded_total ordering.LengthFirstLexicographic = on_total label_tree (then_total (on_total (λ t. length (enc t)) nat_cmp_total) (on_total enc nat_list_cmp_total))

-- whether the label of an entry has the lesser encoding
abbrev pub lesser : CborOrdering → Label × Value → Label × Value → Bool
lesser o x y = is_lt (encoded_cmp o (label_view x.0) (label_view y.0))

pub lesser_ranks : (o : CborOrdering) → IsStrictWeakOrder (lesser o)
lesser_ranks o = ranks_by (encoded_total o) (λ (e : Label × Value). label_view e.0)

get_map : {X Y : Type 0} (f : X → Y) (xs : List X) (i : ℕ) (d : Y) (e : X) → i < length xs → get_or (map f xs) i d ≡ f (get_or xs i e)
get_map f [] i d e h = absurd (omega (arith, h))
get_map f (x ∷ xs) zero d e h = refl
get_map f (x ∷ xs) (suc i) d e h = get_map f xs i d e (omega (arith, h))

length_map : {X Y : Type 0} (f : X → Y) (xs : List X) → length (map f xs) ≡ length xs
length_map f [] = refl
length_map f (x ∷ xs) = ap suc (length_map f xs)

some_element : {X : Type 0} (xs : List X) (n : ℕ) → n < length xs → X
some_element [] n h = absurd (omega (arith, h))
some_element (x ∷ xs) n h = x

sorted_view : (o : CborOrdering) (xs : List (Label × Value)) → IsSortedBy (lesser o) xs → IsSorted (entry_cmp o) (map entry_view xs)
sorted_view o xs s = λ k d l h.
    let n = length_map entry_view xs in
    let i : k + 1 < length xs = omega (arith, h, n) in
    let j : k < length xs = omega (arith, h, n) in
    let e = some_element xs k j in
    ap (λ z. is_lt (entry_cmp o z (get_or (map entry_view xs) k d))) (get_map entry_view xs (k + 1) d e i)
    ∙ ap (λ z. is_lt (entry_cmp o (entry_view (get_or xs (k + 1) e)) z)) (get_map entry_view xs k d e j)
    ∙ s k e l i

from_view : {X Y : Type 0} (f : X → Y) (xs : List X) (e : Y) → Contains (map f xs) e → (x : X) × (f x ≡ e)
from_view f [] e c = absurd (contains_none e c)
from_view f (x ∷ xs) e c = ⊎_elim (λ q. (x, q)) (λ d. from_view f xs e d) (contains_cases (f x) (map f xs) e c)

cond_map : {X Y : Type 0} (f : X → Y) (b : Bool) (x : X) (xs : List X) → cond b (f x ∷ map f xs) (map f xs) ≡ map f (cond b (x ∷ xs) xs)
cond_map f true x xs = refl
cond_map f false x xs = refl

filter_map_is : {X Y : Type 0} (f : X → Y) (p : Y → Bool) (xs : List X) → filter p (map f xs) ≡ map f (filter (λ x. p (f x)) xs)
filter_map_is f p [] = refl
filter_map_is f p (x ∷ xs) = ap (λ z. cond (p (f x)) (f x ∷ z) z) (filter_map_is f p xs) ∙ cond_map f (p (f x)) x (filter (λ x. p (f x)) xs)

stable_view : (o : CborOrdering) (xs ys : List (Label × Value)) → IsStableBy (lesser o) xs ys → (e : LabelFields × Tree) → Contains (map entry_view xs) e
    → filter (ties (λ a b. is_lt (entry_cmp o a b)) e) (map entry_view ys) ≡ filter (ties (λ a b. is_lt (entry_cmp o a b)) e) (map entry_view xs)
stable_view o xs ys s e c =
    let x = from_view entry_view xs e c in
    let p = ties (λ a b. is_lt (entry_cmp o a b)) (entry_view x.0) in
    subst (λ z. filter (ties (λ a b. is_lt (entry_cmp o a b)) z) (map entry_view ys) ≡ filter (ties (λ a b. is_lt (entry_cmp o a b)) z) (map entry_view xs)) x.1
    (filter_map_is entry_view p ys ∙ ap (map entry_view) (s x.0) ∙ sym (filter_map_is entry_view p xs))

pub sorts : (o : CborOrdering) (xs ys : List (Label × Value)) → IsPermutation xs ys → IsSortedBy (lesser o) ys → IsStableBy (lesser o) xs ys → Sorts o (map entry_view xs) (map entry_view ys)
sorts o xs ys p s t = record { pairs = IsPermutation-map entry_view xs ys p; sorted = sorted_view o ys s; stable = stable_view o xs ys t }
