use Rattle.std.proofs.Common.{◌≡◌, ◌≤◌, length}
use Rattle.std.specs.Prelude.{drop, true}
use Rattle.std.specs.List.{list_all}
use Rattle.cose_gate_command.specs.Accepted.{is_black}
use Rattle.cose_gate_command.proofs.accepted.field_start.Given as goal

abbrev pub invariant-loop-start : goal.invariant-loop-start
invariant-loop-start l = (l.start ≤ length l.fn.line) × (list_all is_black (drop l.start l.fn.line) ≡ true)

abbrev pub decreases-loop-start : goal.decreases-loop-start
decreases-loop-start l = l.start
