use Rattle.std.proofs.Common.{Result, subst}
use Rattle.cose_gate.specs.Streaming.{WritesAll}
use Rattle.cose_gate.proofs.Copied.{none_more, one_written}
use Rattle.cose_gate.proofs.feeding.write_on.Goals as goal

pub returns-in-Ok-clause-grows : goal.returns-in-Ok-clause-grows
returns-in-Ok-clause-grows g c first b p =
    one_written g.W.Write first c.args.out.now c.write_all.new.self c.write_all.result b c.args.piece.now
    (subst (λ (z : Result (Unit {0}) g.row.W-Error.Denot). WritesAll g.W.Write first c.args.out.now z b) c.in-Ok.is p) c.write_all.ensures.ok c.write_all.ensures.err c.write_all.ensures.failed

pub returns-in-Err-clause-grows : goal.returns-in-Err-clause-grows
returns-in-Err-clause-grows g c first b p =
    none_more g.W.Write first c.args.out.now c.in-Err.fault b c.args.piece.now
    (subst (λ (z : Result (Unit {0}) g.row.W-Error.Denot). WritesAll g.W.Write first c.args.out.now z b) c.in-Err.is p)
