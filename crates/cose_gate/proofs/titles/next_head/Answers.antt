use Rattle.std.proofs.lemmas.Result.{err_from_is_err_and}
use Rattle.cose_gate.proofs.Faults.{pull_names}
use Rattle.cose_gate.proofs.Far.{far_title}
use Rattle.cose_gate.proofs.titles.next_head.Goals as goal

pub returns-in_err-header-clause-err : goal.returns-in_err-header-clause-err
returns-in_err-header-clause-err g c =
    let p = err_from_is_err_and c.from_residual.result c.from_residual.ensures.1 in
    rw (p.1, p.2) (pull_names g.R.Read.ends _ _ _ _ _ c.in_err-header.ensures.fault)

pub returns-in_err-header-clause-far : goal.returns-in_err-header-clause-far
returns-in_err-header-clause-far g c =
    let p = err_from_is_err_and c.from_residual.result c.from_residual.ensures.1 in
    rw (p.1, p.2) (far_title g.R.Read.ends _ _ _ _ _ c.in_err-header.ensures.fault c.in_err-header.ensures.grows)
