-- The limits if none are chosen.
use Rattle.std.proofs.Common.{◌≡◌, ℕ, Bool, ap, ◌∙◌}
use Rattle.coset_labels.specs.Limits.{nesting, layers, nesting_of, layers_of}
use Rattle.coset_labels.specs.declared.limits.Limits.{Limits}
use Rattle.cose_gate_core.specs.Findings.{within}
use Rattle.cose_gate_core.specs.Terms.{limits_by}

pub usually : (l : Limits) (strict : Bool) → (nesting_of l ≡ nesting) × (layers_of l ≡ layers) → limits_by l strict ≡ within nesting layers strict
usually l strict e = ap (λ (n : ℕ). within n (layers_of l) strict) e.0 ∙ ap (λ (k : ℕ). within nesting k strict) e.1
