use Rattle.std.proofs.Common.{rules}
use Rattle.cose_gate_core.proofs.about.About.with_recipients.Goals as goal

pub returns-clause-recipients : goal.returns-clause-recipients
returns-clause-recipients c = search rules
