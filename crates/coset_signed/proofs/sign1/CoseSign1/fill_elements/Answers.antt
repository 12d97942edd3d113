use Rattle.std.proofs.lemmas.Result.{err_from_is_err_and}
use Rattle.coset_signed.proofs.sign1.CoseSign1.fill_elements.Goals as goal

pub returns-in_err-last : goal.returns-in_err-last
returns-in_err-last c =
    let p = err_from_is_err_and c.from_residual.result c.from_residual.ensures.1 in
    rw (p.1, p.2) (λ ts w. c.in_err-last.ensures _ ts w)

pub returns : goal.returns
returns c = λ ts w. c.in_ok-last.ensures _ ts w
