use Rattle.std.proofs.lemmas.Result.{err_from_is_err_and}
use Rattle.ciborium.proofs.Taking.{fails_pull}
use Rattle.ciborium.proofs.strings.next_title.Goals as goal

pub returns-in_err-header-clause-err : goal.returns-in_err-header-clause-err
returns-in_err-header-clause-err g c =
    let p = err_from_is_err_and c.from_residual.result c.from_residual.ensures.1 in
    rw p.1 (fails_pull g.R.Read.ends _ _ _ _ _ p.0 p.2 c.in_err-header.ensures.fault)
