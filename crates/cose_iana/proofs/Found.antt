-- What a search of a registry finds. The number that was searched is the one that was passed.
use Rattle.std.proofs.Common.{◌≡◌, ◌∙◌, ap, sym, subst, ℤ, true, false, Option, MatchOption, w64, to_z, of_z}
use Rattle.std.proofs.lemmas.Int.{to_z-of_z}
use mir.Val.{SFits}
use Rattle.cose_iana.specs.Registry.{Registry}

pub entry : {E : Type 0} (R : Registry E) (r : Option E) (i : ℤ) → SFits w64 i → r ≡ R.entry (to_z w64 (of_z w64 i)) → r ≡ R.entry i
entry R r i fits e = e ∙ ap R.entry (to_z-of_z w64 i fits)

pub found : {E : Type 0} (R : Registry E) (r : Option E) (i : ℤ) → SFits w64 i → r ≡ R.entry (to_z w64 (of_z w64 i)) → MatchOption r (R.is_registered i ≡ false) (λ x. (R.number x ≡ i) × (R.is_registered i ≡ true))
found R r i fits e = subst (λ o. MatchOption o (R.is_registered i ≡ false) (λ x. (R.number x ≡ i) × (R.is_registered i ≡ true))) (sym (entry R r i fits e)) (R.back_and_there i)
