use Rattle.std.proofs.Common.{◌++◌, ◌<◌, ◌^◌, length, arith}
use Rattle.cose_gate_records.specs.Lines.{IsShown, stopped}
use Rattle.cose_gate_records.proofs.Put.{put_shown, front_shown, begins_both}
use Rattle.cose_gate_records.proofs.lines.stop_for_memory.Goals as goal

pub returns-clause-shown : goal.returns-clause-shown
returns-clause-shown c = λ before rest is shown.
    let few : length c.args.lines.now < 2 ^ 64 = grind (arith, c.type_inv.lines) in
    let front : IsShown before c.args.lines.now = front_shown before (before ++ rest) c.args.lines.now (begins_both before rest) shown in
    rw c.put.ensures (rw is (put_shown before stopped c.args.lines.now few front))
