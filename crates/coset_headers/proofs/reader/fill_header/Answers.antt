use Rattle.std.proofs.lemmas.Result.{err_from_is_err_and}
use Rattle.coset_headers.proofs.Steps.{header_kind}
use Rattle.coset_headers.proofs.reader.fill_header.Goals as goal

pub returns-in_err-entries : goal.returns-in_err-entries
returns-in_err-entries c =
    let p = err_from_is_err_and c.from_residual.result c.from_residual.ensures.1 in
    rw (p.1, p.2) (header_kind _ _ _ _ c.in_err-entries.ensures)
