use Rattle.std.proofs.lemmas.Result.{err_from_is_err_and}
use Rattle.cose_gate_program.proofs.Begins.{no_key_set}
use Rattle.cose_gate_program.proofs.beginning.read_keys.Goals as goal

pub returns-in_err-from_slice : goal.returns-in_err-from_slice
returns-in_err-from_slice c =
    let p = err_from_is_err_and c.from_residual.result c.from_residual.ensures.1 in
    rw p.1 (no_key_set c.args.bytes.now _ _ p.2 c.in_err-from_slice.ensures)
