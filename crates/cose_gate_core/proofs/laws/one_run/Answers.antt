use Rattle.cose_gate_core.proofs.Unique.{run_once}
use Rattle.cose_gate_core.proofs.laws.one_run.Goals as goal

pub returns : goal.returns
returns c = run_once
