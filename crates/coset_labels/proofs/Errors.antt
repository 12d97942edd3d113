-- What is printed of an error if a reader's fault is the end of the bytes.
use Rattle.std.proofs.Common.{◌≡◌, refl}
use Rattle.std.specs.Prelude.{Some, codes}
use Rattle.ciborium.specs.ErrorNames.{printed_error, decode_text}
use Rattle.ciborium.specs.declared.de.Error.{Error}
use Rattle.ciborium.specs.declared.de.Error.TheVariants as error
use Rattle.coset_labels.specs.ErrorTexts.{ended}

pub printed_ended : {E : Type 0} → (e : Error E) → printed_error (λ _. Some (codes "EndOfFile")) e ≡ Some (decode_text ended e)
printed_ended (error.Io e) = refl
printed_ended (error.Syntax at) = refl
printed_ended (error.Semantic at k) = refl
printed_ended error.RecursionLimitExceeded = refl
printed_ended error.Memory = refl
printed_ended error.TooLong = refl
