use Rattle.std.proofs.Common.{inr}
use Rattle.std.proofs.lemmas.Result.{err_from_is_err_and}
use Rattle.coset_recipients.proofs.PartsSteps.{whole_kind, whole_count}
use Rattle.coset_signed.proofs.sign1.CoseSign1.fill.Goals as goal

pub returns-in_err-items-clause-read : goal.returns-in_err-items-clause-read
returns-in_err-items-clause-read c =
    let p = err_from_is_err_and c.from_residual.result c.from_residual.ensures.1 in
    rw (p.1, p.2) (whole_kind _ _ _ _ _ c.in_err-items.ensures)

pub returns-in-None-clause-read : goal.returns-in-None-clause-read
returns-in-None-clause-read c = inr (whole_count _ _ _ _ _ c.in_ok-items.ensures c.in-None.ensures)
