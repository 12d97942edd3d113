use Rattle.std.proofs.Common.{refl}
use Rattle.std.proofs.lemmas.Result.{err_from_is_err_and}
use Rattle.coset_headers.proofs.Steps.{sig_unprotected, sig_protected}
use Rattle.coset_headers.proofs.reader.read_signature.Goals as goal

pub returns-in_err-fill_entries : goal.returns-in_err-fill_entries
returns-in_err-fill_entries c =
    let p = err_from_is_err_and c.from_residual-in_err-fill_entries.result c.from_residual-in_err-fill_entries.ensures.1 in
    rw (p.1, p.2) (sig_unprotected _ _ _ _ _ _ _ _ c.in_ok-first.ensures refl c.in_err-fill_entries.ensures)

pub returns-in_err-protected : goal.returns-in_err-protected
returns-in_err-protected c =
    let p = err_from_is_err_and c.from_residual-in_err-protected.result c.from_residual-in_err-protected.ensures.1 in
    rw (p.1, p.2) (sig_protected _ _ _ _ _ _ _ _ c.in_ok-first.ensures refl c.in_err-protected.ensures)
