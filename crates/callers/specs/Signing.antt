-- What is said about a signature or a tag.
use Rattle.std.specs.Prelude.{ℕ, List, Option, IsSomeAnd, Result, Ok, Err}
use Rattle.coset.specs.CallerFault.{Fault}
use Rattle.coset.specs.CallerFault.TheVariants as fault
use Rattle.coset.specs.Faults.{CantWrite}
use Rattle.callers.specs.declared.signing.Refused.{Refused}

-- the covered bytes are there, and over them it is good
abbrev pub IsGood : (List ℕ → List ℕ → Type 0) → Option (List ℕ) → List ℕ → Type 0
IsGood good covered signature = IsSomeAnd covered (λ b. good b signature)

-- it is good, or it isn't; if the covered bytes can't be written, or it is out of memory, nobody
-- was asked
abbrev pub Verified : (List ℕ → List ℕ → Type 0) → Option (List ℕ) → List ℕ
    → Result (Unit {0}) (Fault Refused) → Type 0
Verified good covered signature (Ok u) = IsGood good covered signature
Verified good covered signature (Err (fault.Caller e)) =
    IsGood (λ b s. good b s → ⊥) covered signature
Verified good covered signature (Err (fault.Cose c)) = CantWrite covered c
