use Rattle.std.proofs.Common.{◌++◌, subst, sym, append_assoc}
use Rattle.std.specs.Prelude.{codes}
use Rattle.cose_gate_program.specs.Writing.{Wrote}
use Rattle.cose_gate_program.proofs.Written.{wrote_then}
use Rattle.cose_gate_command.proofs.input.write_fault.Goals as goal

pub returns : goal.returns
returns g c =
    let name = c.args.name.now in
    let tail = codes ": " ++ c.args.fault.now in
    let end = codes "\n" in
    subst (λ z. Wrote g.E.Write c.args.err.now c.write_tail.new.err (codes "  " ++ z)) (sym (append_assoc name tail end))
    (wrote_then g.E.Write c.args.err.now c.write.new.err c.write_tail.new.err (codes "  ") (name ++ (tail ++ end)) c.write.ensures
    (wrote_then g.E.Write c.write.new.err c.write-2.new.err c.write_tail.new.err name (tail ++ end) c.write-2.ensures c.write_tail.ensures))
