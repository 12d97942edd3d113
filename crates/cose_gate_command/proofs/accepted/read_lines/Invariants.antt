use Rattle.std.proofs.Common.{length}
use Rattle.cose_gate_command.proofs.AcceptedLines.{Before}
use Rattle.cose_gate_command.proofs.accepted.read_lines.Given as goal

abbrev pub invariant-loop-line : goal.invariant-loop-line
invariant-loop-line l = Before l.fn.bytes l.rest l.number l.records.items

abbrev pub decreases-loop-line : goal.decreases-loop-line
decreases-loop-line l = length l.rest
