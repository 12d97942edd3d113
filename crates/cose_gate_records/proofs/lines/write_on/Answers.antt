use Rattle.std.proofs.Common.{◌<◌, ◌^◌, length, sym, subst, arith}
use Rattle.cose_gate_records.specs.Lines.{IsShown}
use Rattle.cose_gate_records.specs.Tallies.{all_of}
use Rattle.cose_gate_records.specs.declared.tally.Tally.{Tally}
use Rattle.cose_gate_records.proofs.Put.{put_shown}
use Rattle.cose_gate_records.proofs.lines.write_on.Goals as goal

pub returns-clause-shown : goal.returns-clause-shown
returns-clause-shown c = λ shown.
    let few : length c.args.buffer.now < 2 ^ 64 = grind (arith, c.type_inv.buffer) in
    let there : IsShown (all_of c.replace-all.result) c.args.buffer.now
    = subst (λ (t : Tally). IsShown (all_of t) c.args.buffer.now) (sym c.replace-all.ensures.value) shown in
    rw c.put.ensures (rw c.and.ensures (rw c.replace-all.result.end_is
    (put_shown (all_of c.replace-all.result) c.args.text.now c.args.buffer.now few there)))
