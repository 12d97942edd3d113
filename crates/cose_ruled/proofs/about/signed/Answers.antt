use Rattle.std.proofs.Common.{rules}
use Rattle.cose_gate_records.specs.Framing.{eight}
use Rattle.cose_ruled.proofs.about.signed.Goals as goal

pub returns : goal.returns
unfolding eight
returns c = search rules
