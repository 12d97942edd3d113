-- What calls return that read a value within limits or write fields.
use Rattle.std.specs.Prelude.{◌≡◌, ℕ, Option, Some, Result, MatchResult}
use Rattle.ciborium_value.specs.Tree.{Tree}
use Rattle.coset_labels.specs.Faults.{CoseFault, OrMemory, CantWrite}
use Rattle.coset_labels.specs.Limits.{nesting_of, layers_of}
use Rattle.coset_labels.specs.declared.error.CoseError.{CoseError}
use Rattle.coset_labels.specs.declared.limits.Limits.{Limits}

-- the value t has the fields that f shows of what is returned; else the error is a fault that it
-- has, or memory ran out
abbrev pub ReadsWithin : {F V : Type 0} → Limits → (ℕ → Tree → F → ℕ → Type 0) → (ℕ → Tree → ℕ → CoseFault → Type 0) → Tree → (V → F) → Result V CoseError → Type 0
ReadsWithin limits Has Wrong t f r =
    MatchResult r (λ v. Has (nesting_of limits) t (f v) (layers_of limits)) (λ e. OrMemory (Wrong (nesting_of limits) t (layers_of limits)) e)

-- f shows of what is returned what is to be written; else the error is that of what can't be
-- written
abbrev pub Writes : {A V : Type 0} → Option A → (V → A) → Result V CoseError → Type 0
Writes o f r = MatchResult r (λ v. o ≡ Some (f v)) (λ e. CantWrite o e)
