use Rattle.std.proofs.lemmas.Result.{err_from_is_err_and}
use Rattle.coset_recipients.proofs.ElementSteps.{last_wrong, content_wrong, header_wrong, protected_wrong, carried_is, all_has}
use Rattle.coset_recipients.proofs.parts.Elements.fill.Goals as goal

pub returns-in_err-last : goal.returns-in_err-last
returns-in_err-last c =
    let p = err_from_is_err_and c.from_residual.result c.from_residual.ensures.1 in
    rw (p.1, p.2) (λ h ts w. last_wrong _ _ h c.args.self ts w _ c.in_err-last.ensures)

pub returns-in_err-bytes : goal.returns-in_err-bytes
returns-in_err-bytes c =
    let p = err_from_is_err_and c.from_residual-in_err-bytes.result c.from_residual-in_err-bytes.ensures.1 in
    rw (p.1, p.2) (λ h ts w. content_wrong _ _ h c.args.self ts w _ c.in_err-bytes.ensures)

pub returns-in_err-self : goal.returns-in_err-self
returns-in_err-self c =
    let p = err_from_is_err_and c.from_residual-in_err-self.result c.from_residual-in_err-self.ensures.1 in
    rw (p.1, p.2) (λ h ts w. header_wrong _ _ h c.args.self ts w _ c.in_err-self.was)

pub returns-in_err-fill_bstr : goal.returns-in_err-fill_bstr
returns-in_err-fill_bstr c =
    let p = err_from_is_err_and c.from_residual-in_err-fill_bstr.result c.from_residual-in_err-fill_bstr.ensures.1 in
    rw (p.1, p.2) (λ h ts w. protected_wrong _ _ h c.args.self ts w _ c.in_err-fill_bstr.ensures.read)

pub returns : goal.returns
returns c = λ h ts w. all_has _ _ h c.args.self ts w _ _ _ _ c.in_ok-self.was c.in_ok-fill_bstr.ensures.read (carried_is _ _ c.in_ok-bytes.ensures) c.in_ok-last.ensures
