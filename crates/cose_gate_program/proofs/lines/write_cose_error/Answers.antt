use Rattle.cose_gate_program.proofs.Written.{wrote_then}
use Rattle.cose_gate_program.proofs.lines.write_cose_error.Goals as goal

pub returns-in-DecodeFailed : goal.returns-in-DecodeFailed
returns-in-DecodeFailed g c =
    rw c.in-DecodeFailed.is (wrote_then g.W.Write _ _ _ _ _ c.write.ensures c.write_decode_fault.ensures)
