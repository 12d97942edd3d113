use Rattle.cose_gate_core.proofs.Unique.{finding_once}
use Rattle.cose_gate_core.proofs.laws.one_finding.Goals as goal

pub returns : goal.returns
returns c = finding_once
