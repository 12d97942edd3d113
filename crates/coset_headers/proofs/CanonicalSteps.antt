-- What the tests of the code say of values.
use Rattle.std.proofs.Common.{◌≡◌, ℕ, ◌<◌, ◌≤◌, List, [], ◌∷◌, length, Bool, true, false, cond, nat_lt, refl, sym, ap, ◌∙◌, arith, Vec, Global}
use Rattle.std.specs.Prelude.{◌&&◌}
use Rattle.std.proofs.lemmas.Bool.Decides.{nat_tests}
use Rattle.ciborium_value.specs.View.{view, views, view_pairs}
use Rattle.ciborium_value.specs.declared.value.Value.{Value}
use Rattle.ciborium_value.specs.declared.value.Value.TheVariants as code
use Rattle.ciborium_value.proofs.Views.{view_array, view_map}
use Rattle.coset_headers.specs.AsWritten.{is_bare, is_several, is_canonical_header, are_canonical_entries, are_canonical_counter_signatures, are_canonical_signatures, are_canonical_elements}

pub short : (xs : List Value) → length xs < 2 → false ≡ are_canonical_elements (views xs)
short [] h = refl
short (a ∷ []) h = refl
short (a ∷ b ∷ cs) h = absurd (omega (arith, h))

pub map_canonical : (value : Value) (v : Vec (Value × Value) Global) (es : List (Value × Value)) (b : Bool) → value ≡ code.Map v → es ≡ v.items → b ≡ are_canonical_entries 1 (view_pairs es) → b ≡ is_canonical_header (view value)
map_canonical value v es b e q h = h ∙ ap (λ z. are_canonical_entries 1 (view_pairs z)) q ∙ ap is_canonical_header (sym (ap view e ∙ view_map v))

counted : (xs : List Value) → is_several (views xs) ≡ nat_lt 1 (length xs)
counted [] = refl
counted (a ∷ []) = refl
counted (a ∷ b ∷ cs) = grind (arith, nat_tests)

signed_is : (value : Value) (v : Vec Value Global) (us : List Value) (n : ℕ) (r : Bool) → value ≡ code.Array v → us ≡ v.items → r ≡ is_bare (views us) → r ≡ false → n ≡ v.len
    → are_canonical_counter_signatures (view value) ≡ (nat_lt 1 n && are_canonical_signatures (views v.items))
signed_is value v us n r e q h f l =
    ap are_canonical_counter_signatures (ap view e ∙ view_array v)
    ∙ ap (λ z. cond z (are_canonical_elements (views v.items)) (is_several (views v.items) && are_canonical_signatures (views v.items))) (ap (λ z. is_bare (views z)) (sym q) ∙ sym h ∙ f)
    ∙ ap (λ z. z && are_canonical_signatures (views v.items)) (counted v.items ∙ ap (nat_lt 1) (sym (l ∙ v.ok.0)))

more : (n : ℕ) → 1 < n → nat_lt 1 n ≡ true
more n h = grind (arith, nat_tests)

one : (n : ℕ) → n ≤ 1 → nat_lt 1 n ≡ false
one n h = grind (arith, nat_tests)

pub several_canonical : (value : Value) (v : Vec Value Global) (us vs : List Value) (n : ℕ) (r b : Bool) → value ≡ code.Array v → us ≡ v.items → r ≡ is_bare (views us) → r ≡ false → n ≡ v.len → 1 < n
    → vs ≡ v.items → b ≡ are_canonical_signatures (views vs) → b ≡ are_canonical_counter_signatures (view value)
several_canonical value v us vs n r b e q h f l t p s =
    s ∙ ap (λ z. are_canonical_signatures (views z)) p ∙ sym (signed_is value v us n r e q h f l ∙ ap (λ z. z && are_canonical_signatures (views v.items)) (more n t))

pub single_canonical : (value : Value) (v : Vec Value Global) (us : List Value) (n : ℕ) (r : Bool) → value ≡ code.Array v → us ≡ v.items → r ≡ is_bare (views us) → r ≡ false → n ≡ v.len → n ≤ 1
    → nat_lt 1 n ≡ are_canonical_counter_signatures (view value)
single_canonical value v us n r e q h f l t = one n t ∙ sym (signed_is value v us n r e q h f l ∙ ap (λ z. z && are_canonical_signatures (views v.items)) (one n t))
