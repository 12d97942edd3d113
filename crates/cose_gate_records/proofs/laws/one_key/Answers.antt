use Rattle.cose_gate_records.proofs.Keys.{same_key}
use Rattle.cose_gate_records.proofs.laws.one_key.Goals as goal

pub returns : goal.returns
returns c = same_key
