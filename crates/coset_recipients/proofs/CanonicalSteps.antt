-- What the tests of the code say of values.
use Rattle.std.proofs.Common.{◌≡◌, ◌<◌, ◌≤◌, List, [], ◌∷◌, length, get_or, Bool, true, false, not, refl, sym, ap, ◌∙◌, arith, Vec, Global}
use Rattle.std.specs.Prelude.{◌&&◌, ◌==◌}
use Rattle.std.proofs.lemmas.Bool.Decides.{nat_tests}
use Rattle.ciborium_value.specs.View.{view, views}
use Rattle.ciborium_value.specs.declared.value.Value.{Value}
use Rattle.ciborium_value.specs.declared.value.Value.TheVariants as code
use Rattle.ciborium_value.proofs.Views.{view_array}
use Rattle.coset_recipients.specs.AsWritten.{is_filled, is_canonical_fourth, is_canonical_list, are_canonical_recipients}

pub no_fourth : (xs : List Value) → length xs < 4 → true ≡ is_canonical_fourth (views xs)
no_fourth [] h = refl
no_fourth (a ∷ []) h = refl
no_fourth (a ∷ b ∷ []) h = refl
no_fourth (a ∷ b ∷ c ∷ []) h = refl
no_fourth (a ∷ b ∷ c ∷ d ∷ es) h = absurd (omega (arith, h))

pub some_fourth : (xs : List Value) (x : Value) (b : Bool) → 4 ≤ length xs → x ≡ get_or xs 3 x → b ≡ is_canonical_list (view x) → b ≡ is_canonical_fourth (views xs)
some_fourth (y ∷ z ∷ w ∷ v ∷ vs) x b h e q = q ∙ ap (λ u. is_canonical_list (view u)) e
some_fourth xs x b h e q = absurd (omega (arith, h))

filled_is : (xs : List Value) → is_filled (views xs) ≡ not (length xs == 0)
filled_is [] = refl
filled_is (x ∷ xs) = grind (arith, nat_tests)

list_is : (value : Value) (v : Vec Value Global) (r : Bool) → value ≡ code.Array v → r ≡ (v.len == 0) → is_canonical_list (view value) ≡ (not r && are_canonical_recipients (views v.items))
list_is value v r e q =
    ap is_canonical_list (ap view e ∙ view_array v)
    ∙ ap (λ z. z && are_canonical_recipients (views v.items)) (filled_is v.items ∙ ap (λ n. not (n == 0)) (sym v.ok.0) ∙ ap not (sym q))

pub filled_canonical : (value : Value) (v : Vec Value Global) (us : List Value) (r b : Bool) → value ≡ code.Array v → r ≡ (v.len == 0) → r ≡ false → us ≡ v.items → b ≡ are_canonical_recipients (views us) → b ≡ is_canonical_list (view value)
filled_canonical value v us r b e q f p s =
    s ∙ ap (λ z. are_canonical_recipients (views z)) p ∙ sym (list_is value v r e q ∙ ap (λ z. not z && are_canonical_recipients (views v.items)) f)

pub empty_canonical : (value : Value) (v : Vec Value Global) (r : Bool) → value ≡ code.Array v → r ≡ (v.len == 0) → r ≡ true → not r ≡ is_canonical_list (view value)
empty_canonical value v r e q t = ap not t ∙ sym (list_is value v r e q ∙ ap (λ z. not z && are_canonical_recipients (views v.items)) t)
