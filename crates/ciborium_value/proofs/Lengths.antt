-- The lengths of encodings.
use Rattle.std.proofs.Common.{◌≡◌, ℕ, zero, suc, ◌+◌, ◌<◌, ◌≤◌, ◌^◌, min, List, [], ◌∷◌, ◌++◌, length, drop, take, get_or, length-append, refl, ap, sym, subst, ◌∙◌, Vec, Global, arith}
use Rattle.ciborium_ll.specs.Title.{shortest}
use Rattle.ciborium_value.specs.Tree.{tree_count, pair_count}
use Rattle.ciborium_value.specs.Encoding.{enc, enc_all, enc_pairs}
use Rattle.ciborium_value.specs.View.{view, views, view_pairs}
use Rattle.ciborium_value.specs.Canonical.{counted}
use Rattle.ciborium_value.specs.Facts.Heads.{Sized, SizedAll, SizedPairs}
use Rattle.ciborium_value.specs.declared.value.Value.{Value}
use Rattle.ciborium_value.specs.declared.value.Value.TheVariants as code
use Rattle.ciborium_value.proofs.Views.{view_array, view_map}
use Rattle.ciborium_value.proofs.Fitting.{count_items, count_entries}

-- a head and what is after it
joined_len : (a b : List ℕ) (n m : ℕ) → n ≡ length a → m ≡ counted b → min (n + m) 0xffff_ffff_ffff_ffff ≡ counted (a ++ b)
joined_len a b n m e f = omega (arith, e, f, length-append a b)

pub array_len : (value : Value) (v : Vec Value Global) → value ≡ code.Array v → (n k m : ℕ) → n ≡ v.len → k ≡ length (shortest 4 n) → m ≡ counted (enc_all (views v.items)) → min (k + m) 0xffff_ffff_ffff_ffff ≡ counted (enc (view value))
array_len value v e n k m l p q =
    let f : n ≡ tree_count (views v.items) = omega (arith, l, v.ok.0, count_items v.items) in
    joined_len (shortest 4 (tree_count (views v.items))) (enc_all (views v.items)) k m (p ∙ ap (λ z. length (shortest 4 z)) f) q ∙ sym (ap (λ z. counted (enc (view z))) e ∙ ap (λ z. counted (enc z)) (view_array v))

pub map_len : (value : Value) (v : Vec (Value × Value) Global) → value ≡ code.Map v → (n k m : ℕ) → n ≡ v.len → k ≡ length (shortest 5 n) → m ≡ counted (enc_pairs (view_pairs v.items)) → min (k + m) 0xffff_ffff_ffff_ffff ≡ counted (enc (view value))
map_len value v e n k m l p q =
    let f : n ≡ pair_count (view_pairs v.items) = omega (arith, l, v.ok.0, count_entries v.items) in
    joined_len (shortest 5 (pair_count (view_pairs v.items))) (enc_pairs (view_pairs v.items)) k m (p ∙ ap (λ z. length (shortest 5 z)) f) q ∙ sym (ap (λ z. counted (enc (view z))) e ∙ ap (λ z. counted (enc z)) (view_map v))

pub array_sized : (value : Value) (v : Vec Value Global) (n : ℕ) → value ≡ code.Array v → n ≡ v.len → n < 2 ^ 64 → SizedAll (views v.items) → Sized (view value)
array_sized value v n e f l s =
    let k : tree_count (views v.items) < 2 ^ 64 = omega (arith, f, l, v.ok.0, count_items v.items) in
    subst Sized (sym (ap view e ∙ view_array v)) (k, s)

pub map_sized : (value : Value) (v : Vec (Value × Value) Global) (n : ℕ) → value ≡ code.Map v → n ≡ v.len → n < 2 ^ 64 → SizedPairs (view_pairs v.items) → Sized (view value)
map_sized value v n e f l s =
    let k : pair_count (view_pairs v.items) < 2 ^ 64 = omega (arith, f, l, v.ok.0, count_entries v.items) in
    subst Sized (sym (ap view e ∙ view_map v)) (k, s)

pub items_none : (xs : List Value) (i : ℕ) → length xs ≤ i → length (enc_all (views (drop i xs))) ≡ 0
items_none [] zero p = refl
items_none [] (suc i) p = refl
items_none (a ∷ xs) zero p = absurd (omega (arith, p))
items_none (a ∷ xs) (suc i) p = items_none xs i (omega (arith, p))

pub entries_none : (xs : List (Value × Value)) (i : ℕ) → length xs ≤ i → length (enc_pairs (view_pairs (drop i xs))) ≡ 0
entries_none [] zero p = refl
entries_none [] (suc i) p = refl
entries_none (a ∷ xs) zero p = absurd (omega (arith, p))
entries_none (a ∷ xs) (suc i) p = entries_none xs i (omega (arith, p))

step_at : (xs : List Value) (i : ℕ) (x : Value) → i < length xs → x ≡ get_or xs i x → SizedAll (views (take i xs)) → Sized (view x)
    → (length (enc_all (views (drop i xs))) ≡ length (enc (view x)) + length (enc_all (views (drop (suc i) xs)))) × SizedAll (views (take (suc i) xs))
step_at [] i x p e s q = absurd (omega (arith, p))
step_at (a ∷ xs) zero x p e s q = (length-append (enc (view a)) (enc_all (views xs)) ∙ ap (λ z. length (enc (view z)) + length (enc_all (views xs))) (sym e), (subst (λ z. Sized (view z)) e q, tt))
step_at (a ∷ xs) (suc i) x p e s q = let h = step_at xs i x (omega (arith, p)) e s.1 q in (h.0, (s.0, h.1))

-- one item more
pub step : (xs : List Value) (i : ℕ) (x : Value) → i < length xs → x ≡ get_or xs i x → SizedAll (views (take i xs)) → Sized (view x)
    → (length (enc_all (views (drop i xs))) ≡ length (enc (view x)) + length (enc_all (views (drop (i + 1) xs)))) × SizedAll (views (take (i + 1) xs))
step xs i x p e s q =
    let n : suc i ≡ i + 1 = omega arith in
    subst (λ m. (length (enc_all (views (drop i xs))) ≡ length (enc (view x)) + length (enc_all (views (drop m xs)))) × SizedAll (views (take m xs))) n (step_at xs i x p e s q)

entry_step_at : (xs : List (Value × Value)) (i : ℕ) (x : Value × Value) → i < length xs → x ≡ get_or xs i x → SizedPairs (view_pairs (take i xs)) → Sized (view x.0) → Sized (view x.1)
    → (length (enc_pairs (view_pairs (drop i xs))) ≡ length (enc (view x.0)) + length (enc (view x.1)) + length (enc_pairs (view_pairs (drop (suc i) xs)))) × SizedPairs (view_pairs (take (suc i) xs))
entry_step_at [] i x p e s q r = absurd (omega (arith, p))
entry_step_at (a ∷ xs) zero x p e s q r =
    let k = length-append (enc (view a.0)) (enc (view a.1) ++ enc_pairs (view_pairs xs)) in
    let l = length-append (enc (view a.1)) (enc_pairs (view_pairs xs)) in
    let h : length (enc (view a.0)) ≡ length (enc (view x.0)) = ap (λ z. length (enc (view z.0))) (sym e) in
    let g : length (enc (view a.1)) ≡ length (enc (view x.1)) = ap (λ z. length (enc (view z.1))) (sym e) in
    (omega (arith, k, l, h, g), (subst (λ z. Sized (view z.0)) e q, subst (λ z. Sized (view z.1)) e r, tt))
entry_step_at (a ∷ xs) (suc i) x p e s q r = let h = entry_step_at xs i x (omega (arith, p)) e s.2 q r in (h.0, (s.0, s.1, h.1))

-- one entry more
pub entry_step : (xs : List (Value × Value)) (i : ℕ) (x : Value × Value) → i < length xs → x ≡ get_or xs i x → SizedPairs (view_pairs (take i xs)) → Sized (view x.0) → Sized (view x.1)
    → (length (enc_pairs (view_pairs (drop i xs))) ≡ length (enc (view x.0)) + length (enc (view x.1)) + length (enc_pairs (view_pairs (drop (i + 1) xs)))) × SizedPairs (view_pairs (take (i + 1) xs))
entry_step xs i x p e s q r =
    let n : suc i ≡ i + 1 = omega arith in
    subst (λ m. (length (enc_pairs (view_pairs (drop i xs))) ≡ length (enc (view x.0)) + length (enc (view x.1)) + length (enc_pairs (view_pairs (drop m xs)))) × SizedPairs (view_pairs (take m xs))) n (entry_step_at xs i x p e s q r)
