use Rattle.std.proofs.Common.{◌++◌}
use Rattle.std.specs.Prelude.{codes}
use Rattle.std.specs.Fmt.{decimal}
use Rattle.cose_gate_program.proofs.Written.{wrote_then}
use Rattle.cose_gate_command.proofs.starting.write_line_fault.Goals as goal

pub returns : goal.returns
returns g c =
    let number = decimal c.args.number in
    let fault = c.args.fault.now in
    wrote_then g.E.Write c.args.err.now c.write.new.err c.write-2.new.err (codes "accepted: line ") (number ++ fault) c.write.ensures
    (wrote_then g.E.Write c.write.new.err c.write_number.new.out c.write-2.new.err number fault c.write_number.ensures c.write-2.ensures)
