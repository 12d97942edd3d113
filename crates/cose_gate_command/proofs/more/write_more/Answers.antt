use Rattle.std.proofs.Common.{true}
use Rattle.cose_gate_command.proofs.RunLines.{adds_line, adds_nothing}
use Rattle.cose_gate_command.proofs.more.write_more.Goals as goal

pub returns-then-is_empty-2 : goal.returns-then-is_empty-2
returns-then-is_empty-2 g c = adds_nothing g.W.Write true _

pub returns : goal.returns
returns g c = adds_line g.W.Write _ _ c.one_line.result.now c.one_line-2.result.now c.one_line.ensures c.one_line-2.ensures c.write_indented.ensures
