use Rattle.std.proofs.Common.{◌≡◌, ◌∙◌, sym, false}
use Rattle.std.specs.Prelude.{codes}
use Rattle.cose_gate_program.proofs.Written.{wrote_then}
use Rattle.cose_gate_command.specs.Input.{is_memory}
use Rattle.cose_gate_command.proofs.input.say_no_input.Goals as goal

pub returns-clause-said : goal.returns-clause-said
returns-clause-said g c =
    let no : is_memory c.args.kind ≡ false = sym c.is_memory.ensures ∙ c.if-is_memory.false in
    rw no (wrote_then g.E.Write c.args.err.now c.write-2.new.err c.write_fault.new.err (codes "input: cannot be read\n") _ c.write-2.ensures
    (rw (c.visible_or.ensures, c.file_fault.ensures) at c.write_fault.ensures))
