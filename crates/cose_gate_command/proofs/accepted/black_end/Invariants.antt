use Rattle.std.proofs.Common.{◌≡◌, ◌≤◌, length}
use Rattle.std.specs.Prelude.{drop, true}
use Rattle.std.specs.List.{list_all}
use Rattle.cose_gate_command.specs.Accepted.{is_blank}
use Rattle.cose_gate_command.proofs.accepted.black_end.Given as goal

abbrev pub invariant-loop-end : goal.invariant-loop-end
invariant-loop-end l = (l.end ≤ length l.fn.line) × (list_all is_blank (drop l.end l.fn.line) ≡ true)

abbrev pub decreases-loop-end : goal.decreases-loop-end
decreases-loop-end l = l.end
