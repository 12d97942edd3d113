use Rattle.std.proofs.Common.{arith}
use Rattle.cose_gate_records.proofs.Frames.{no_number, number_is}
use Rattle.cose_gate_records.proofs.framing.split_number.Goals as goal

pub returns-in_err-number : goal.returns-in_err-number
returns-in_err-number c = rw c.from_residual.ensures (λ n r e. no_number c.args.bytes.now r n c.in_err-number.ensures.cases e)

pub returns : goal.returns
returns c =
    let d = c.in_ok-number.ensures.cases in
    (omega arith, number_is c.args.bytes.now c.in_ok-number.number.now c.in_ok-number.rest.now c.number_of.result d.0 d.1 c.number_of.ensures)
