use Rattle.std.proofs.lemmas.Result.{err_from_is_err_and}
use Rattle.coset_recipients.proofs.PartsRead.{parts_content, parts_unprotected, parts_protected}
use Rattle.coset_recipients.proofs.parts.PartValues.fill.Goals as goal

pub returns-in_err-carried-clause-read : goal.returns-in_err-carried-clause-read
returns-in_err-carried-clause-read c =
    let p = err_from_is_err_and c.from_residual.result c.from_residual.ensures.1 in
    rw (p.1, p.2) (parts_content _ _ _ _ _ _ c.in_err-carried.ensures)

pub returns-in_err-fill-clause-read : goal.returns-in_err-fill-clause-read
returns-in_err-fill-clause-read c =
    let p = err_from_is_err_and c.from_residual-in_err-fill.result c.from_residual-in_err-fill.ensures.1 in
    rw (p.1, p.2) (parts_unprotected _ _ _ _ _ _ c.in_err-fill.ensures.read)

pub returns-in-Err-clause-read : goal.returns-in-Err-clause-read
returns-in-Err-clause-read c = parts_protected _ _ _ _ _ _ c.in-Err.ensures.read
