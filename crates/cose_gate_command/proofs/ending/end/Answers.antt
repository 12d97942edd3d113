use Rattle.std.proofs.Common.{List, ℕ, append-nil, subst}
use Rattle.cose_gate_program.specs.Writing.{Wrote}
use Rattle.cose_gate_program.proofs.Handed.{handed_after}
use Rattle.cose_gate_program.proofs.Written.{wrote_then}
use Rattle.cose_gate_command.specs.Waiting.{last_line}
use Rattle.cose_gate_command.proofs.ending.end.Goals as goal

pub returns-clause-wrote : goal.returns-clause-wrote
returns-clause-wrote g c = subst (λ (z : List ℕ). Wrote g.W.Write c.args.out.now c.hand_on.new.out z) (append-nil (last_line c.args.is_so c.args.last.now))
    (wrote_then g.W.Write _ _ _ _ _ c.write_last.ensures c.hand_on.ensures.nothing)

pub returns-clause-handed : goal.returns-clause-handed
returns-clause-handed g c = handed_after g.W.Write _ _ _ c.write_last.ensures.1.0 c.hand_on.ensures.nothing.1.0 c.hand_on.ensures.handed
