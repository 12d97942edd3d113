use Rattle.std.proofs.lemmas.Result.{err_from_is_err_and}
use Rattle.ciborium_ll.proofs.Appending.{front_then, on_err_then}
use Rattle.ciborium.proofs.ser.write_string.Goals as goal

pub returns-in_err-head-clause-err : goal.returns-in_err-head-clause-err
returns-in_err-head-clause-err g c =
    let p = err_from_is_err_and c.from_residual.result c.from_residual.ensures.1 in
    rw (p.1) (front_then _ _ _ _ c.in_err-head.ensures.err)

pub returns-clause-err : goal.returns-clause-err
returns-clause-err g c = on_err_then _ _ _ _ _ _ c.in_ok-head.ensures.ok c.write_all.ensures.err
