use Rattle.std.proofs.Common.{◌≡◌, ℕ, List}
use Rattle.ciborium_value.specs.Tree.{Tree}
use Rattle.cose_gate_core.specs.Findings.{Bounds, Finding, Finds}
use Rattle.cose_gate_core.proofs.Unique.{finding_once}
use Rattle.cose_gate_core.proofs.Lows.{Low, fits_low, reads_low}
use Rattle.cose_gate_core.proofs.FindingCases.{finding_there}
use Rattle.cose_gate_core.proofs.findings.every_item_found.Goals as goal

exactly_one : (l : Bounds) (b : List ℕ) (t : Tree) → Low t → (f : Finding) × Finds l b t f × ((g : Finding) → Finds l b t g → f ≡ g)
exactly_one l b t low = let f = finding_there l b t low in (f.0, f.1, λ g h. finding_once l b t f.0 g f.1 h)

pub returns : goal.returns
returns c = record {
  fits = λ l b t f. exactly_one l b t (fits_low t f);
  reads = λ l b n t r low. exactly_one l b t (reads_low b n t r low);
}
