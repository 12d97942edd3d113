use Rattle.std.proofs.Common.{rules}
use Rattle.cose_gate_program.proofs.Handed.{handed_told}
use Rattle.cose_gate_program.proofs.lines.write_logged.Goals as goal

pub returns-clause-handed : goal.returns-clause-handed
returns-clause-handed g c = λ begun since. rw c.and.ensures (handed_told g.W.Write begun.items _ _ _ _ _ _ since c.write_notice.ensures.wrote c.write_notice.ensures.handed)
