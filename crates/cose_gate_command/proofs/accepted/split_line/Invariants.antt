use Rattle.std.proofs.Common.{◌≡◌}
use Rattle.std.specs.Prelude.{take, true}
use Rattle.cose_gate_command.specs.Accepted.{is_one_line}
use Rattle.cose_gate_command.proofs.accepted.split_line.Given as goal

abbrev pub invariant-loop-at : goal.invariant-loop-at
invariant-loop-at l = is_one_line (take l.at l.fn.bytes) ≡ true
