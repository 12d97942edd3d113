use Rattle.std.proofs.lemmas.Result.{err_from_is_err_and}
use Rattle.coset_headers.proofs.Steps.{prot_kind, prot_deep}
use Rattle.coset_headers.proofs.reader.protected_bytes.Goals as goal

pub returns-in_err-bytes : goal.returns-in_err-bytes
returns-in_err-bytes c =
    let p = err_from_is_err_and c.from_residual.result c.from_residual.ensures.1 in
    rw (p.1, p.2) (λ n. prot_kind n _ _ _ c.in_err-bytes.ensures)

pub returns-then-layers-eq0 : goal.returns-then-layers-eq0
returns-then-layers-eq0 c = λ n. prot_deep n _ c.in_ok-bytes.bytes.items _ c.in_ok-bytes.ensures c.if-layers-eq0.true
