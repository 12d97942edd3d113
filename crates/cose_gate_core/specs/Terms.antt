-- What a gate goes by.
use Rattle.std.specs.Prelude.{◌≡◌, ℕ, List, Bool, true, false, MatchBool}
use Rattle.ciborium_value.specs.Tree.{Tree}
use Rattle.ciborium_value.specs.View.{view}
use Rattle.ciborium_value.specs.Encoding.{enc}
use Rattle.ciborium.specs.Front.{Reads}
use Rattle.ciborium.specs.Fronts.{IsFront}
use Rattle.ciborium.specs.declared.frames.Front.{Front}
use Rattle.ciborium.specs.declared.frames.Front.TheVariants as front
use Rattle.coset_labels.specs.Limits.{nesting_of, layers_of}
use Rattle.coset_labels.specs.declared.limits.Limits.{Limits}
use Rattle.cose_gate_core.specs.Findings.{Bounds, within}
use Rattle.cose_gate_core.specs.declared.terms.Terms.{Terms}

-- the limits that a caller chose, for the gate or for the strict gate
abbrev pub limits_by : Limits → Bool → Bounds
limits_by chosen strict = within (nesting_of chosen) (layers_of chosen) strict

abbrev pub limits_of : Terms → Bounds
limits_of terms = limits_by terms.limits terms.strict

-- an item was read from these bytes, and if that is asked it is told whether they are the one
-- encoding of its value
abbrev pub IsTaken : Terms → List ℕ → Tree → Bool → Type 0
IsTaken terms b t exact =
    Reads b (nesting_of terms.limits) t
    × (terms.strict ≡ true → MatchBool exact (b ≡ enc t) (b ≡ enc t → ⊥))

-- the same of what stands at the front; only a gate that isn't strict takes the heads of a message
abbrev pub IsTakenFront : Terms → Front → Bool → List ℕ → Type 0
IsTakenFront terms (front.Item v) exact b = IsTaken terms b (view v) exact
IsTakenFront terms (front.Four n) exact b = (terms.strict ≡ false) × IsFront (nesting_of terms.limits) (front.Four n) b
