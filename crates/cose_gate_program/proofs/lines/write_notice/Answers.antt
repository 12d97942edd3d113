use Rattle.std.proofs.Common.{List, ℕ, append-nil, subst}
use Rattle.cose_gate_program.specs.Lines.{line_of}
use Rattle.cose_gate_program.specs.Writing.{Wrote}
use Rattle.cose_gate_program.proofs.Handed.{handed_after}
use Rattle.cose_gate_program.proofs.Written.{wrote_then}
use Rattle.cose_gate_program.proofs.lines.write_notice.Goals as goal

pub returns-clause-wrote : goal.returns-clause-wrote
returns-clause-wrote g c = subst (λ (z : List ℕ). Wrote g.W.Write c.args.out.now c.hand_on.new.out z) (append-nil (line_of c.args.notice.now))
    (wrote_then g.W.Write _ _ _ _ _ c.write_line.ensures c.hand_on.ensures.nothing)

pub returns-clause-handed : goal.returns-clause-handed
returns-clause-handed g c = λ last. handed_after g.W.Write _ _ _ c.write_line.ensures.1.0 c.hand_on.ensures.nothing.1.0 c.hand_on.ensures.handed
