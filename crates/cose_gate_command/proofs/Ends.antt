-- The limits if none are chosen.
use Rattle.std.proofs.Common.{◌≡◌, ℕ, List, Option, Bool, ap, subst, ◌∙◌}
use Rattle.cose_gate_core.specs.Findings.{Bounds, within}
use Rattle.cose_gate_core.specs.Questions.{Question}
use Rattle.cose_gate_core.specs.Terms.{limits_by}
use Rattle.coset_keys.specs.Fields.{KeyFields}
use Rattle.cose_gate_program.specs.Program.{Devices}
use Rattle.cose_gate_program.specs.Telling.{EndsTold}
use Rattle.cose_gate_program.specs.declared.telling.Notice.{Notice}
use Rattle.coset_labels.specs.Limits.{nesting, layers, nesting_of, layers_of}
use Rattle.coset_labels.specs.declared.limits.Limits.{Limits}
use Rattle.cose_gate_program.proofs.Runs.{same_devices}
use Rattle.cose_gate_command.specs.Ends.{bounds_by}

pub usually : (l : Limits) (strict : Bool) → (nesting_of l ≡ nesting) × (layers_of l ≡ layers) → limits_by l strict ≡ bounds_by strict
usually l strict e = ap (λ (n : ℕ). within n (layers_of l) strict) e.0 ∙ ap (λ (k : ℕ). within nesting k strict) e.1

-- a reader that was lent on is where it was left
pub lent_on : (limits : Bounds) (allows : List KeyFields → Question → Bool) (keys aad : Option (List ℕ)) (old : Devices) (status : ℕ) (Told : List Notice → Type 0) (l l' w w' : Option (List ℕ)) (n n' f f' : ℕ)
    → l ≡ l' → w ≡ w' → n ≡ n' → f ≡ f'
    → EndsTold limits allows keys aad old (record { left = l; written = w; read_failures = n; write_failures = f }) status Told
    → EndsTold limits allows keys aad old (record { left = l'; written = w'; read_failures = n'; write_failures = f' }) status Told
lent_on limits allows keys aad old status Told l l' w w' n n' f f' a b c d e =
    subst (λ (x : Devices). EndsTold limits allows keys aad old x status Told) (same_devices l l' w w' n n' f f' a b c d) e
