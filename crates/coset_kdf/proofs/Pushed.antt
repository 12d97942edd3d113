-- Items that are appended to an array.
use Rattle.std.proofs.Common.{◌≡◌, ℕ, Vec, Global, List, [], ◌∷◌, ◌++◌, map, refl, sym, ap, ◌∙◌, append_assoc}
use Rattle.std.proofs.lemmas.List.{map-append}
use Rattle.ciborium_value.specs.Tree.{Tree, bytes}
use Rattle.ciborium_value.specs.View.{view}
use Rattle.ciborium_value.specs.declared.value.Value.{Value}
use Rattle.ciborium_value.specs.declared.value.Value.TheVariants as code
use Rattle.ciborium_value.proofs.Views.{view_bytes}

abbrev strings : List (Vec ℕ Global) → List Tree
strings xs = map bytes (map (λ v. v.items) xs)

strings_last : (xs : List (Vec ℕ Global)) (x : Vec ℕ Global) → strings (xs ++ x ∷ []) ≡ strings xs ++ bytes x.items ∷ []
strings_last [] x = refl
strings_last (y ∷ xs) x = ap (λ z. bytes y.items ∷ z) (strings_last xs x)

pub private_pushed : (start old new : List Value) (xs : List (Vec ℕ Global)) (x : Vec ℕ Global) → new ≡ old ++ code.Bytes x ∷ []
    → map view old ≡ map view start ++ map bytes (map (λ v. v.items) xs) → map view new ≡ map view start ++ map bytes (map (λ v. v.items) (xs ++ x ∷ []))
private_pushed start old new xs x e w =
    ap (map view) e ∙ map-append view old (code.Bytes x ∷ [])
    ∙ ap (λ z. map view old ++ z ∷ []) (view_bytes x)
    ∙ ap (λ z. z ++ bytes x.items ∷ []) w
    ∙ append_assoc (map view start) (strings xs) (bytes x.items ∷ [])
    ∙ ap (λ z. map view start ++ z) (sym (strings_last xs x))
