-- What the tests of the code say of values.
use Rattle.std.proofs.Common.{◌≡◌, ◌<◌, List, [], ◌∷◌, length, false, refl, arith}
use Rattle.ciborium_value.specs.View.{views}
use Rattle.ciborium_value.specs.declared.value.Value.{Value}
use Rattle.coset_maced.specs.AsWritten.{is_canonical_last}

pub no_last : (xs : List Value) → length xs < 5 → false ≡ is_canonical_last (views xs)
no_last [] h = refl
no_last (a ∷ []) h = refl
no_last (a ∷ b ∷ []) h = refl
no_last (a ∷ b ∷ c ∷ []) h = refl
no_last (a ∷ b ∷ c ∷ d ∷ []) h = refl
no_last (a ∷ b ∷ c ∷ d ∷ e ∷ fs) h = absurd (omega (arith, h))
