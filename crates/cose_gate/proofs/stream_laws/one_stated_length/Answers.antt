use Rattle.cose_gate.proofs.Lengths.{stated_once}
use Rattle.cose_gate.proofs.stream_laws.one_stated_length.Goals as goal

pub returns : goal.returns
returns c = stated_once
