use Rattle.std.proofs.Common.{sym, ◌∙◌}
use Rattle.cose_gate_command.proofs.RunLines.{not_silent}
use Rattle.cose_gate_command.proofs.line_writer.write_shown.Goals as goal

pub returns-then-is_silent-clause-handed : goal.returns-then-is_silent-clause-handed
returns-then-is_silent-clause-handed g c = λ last. absurd (not_silent c.args.kept c.args.notice.now (sym c.is_silent.ensures ∙ c.if-is_silent.true) last)

pub returns-clause-handed : goal.returns-clause-handed
returns-clause-handed g c = c.write_notice.ensures.handed
