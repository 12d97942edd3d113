use Rattle.cose_gate_command.proofs.AcceptedLines.{begun, on}
use Rattle.cose_gate_command.proofs.accepted.read_lines.Goals as goal

pub loop-line-init : goal.loop-line-init
loop-line-init c = begun c.args.bytes.now _ c.new-records.ensures.items

pub loop-line-preserved : goal.loop-line-preserved
loop-line-preserved c =
    let h = c.in_ok-add_line.ensures.ok in
    on c.args.bytes.now c.loop-line.rest.now c.in-Some.line.now c.in-Some.after.now c.loop-line.records.items c.add_line.new.records.items h.0 c.loop-line.number c.loop-line.invariant c.in-Some.ensures.0 c.in-Some.ensures.1 h.1 h.2
