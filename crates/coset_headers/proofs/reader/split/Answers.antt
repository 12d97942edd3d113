use Rattle.std.proofs.Common.{sym, subst, ap, ◌∙◌}
use Rattle.std.proofs.lemmas.Result.{err_from_is_err_and}
use Rattle.ciborium_value.specs.Tree.{array}
use Rattle.ciborium_value.specs.View.{view, views}
use Rattle.coset_labels.specs.Facts.Walks.{views_count}
use Rattle.coset_labels.specs.Faults.{unexpected}
use Rattle.coset_headers.specs.Wrong.{WrongSignature, no_array, not_three, in_unprotected, no_bytes, no_map}
use Rattle.coset_headers.proofs.reader.split.Goals as goal

pub returns-in_err-items : goal.returns-in_err-items
returns-in_err-items c =
    let p = err_from_is_err_and c.from_residual.result c.from_residual.ensures.1 in
    let w = c.in_err-items.ensures in
    rw (p.1, p.2) (λ n k. subst (WrongSignature n (view c.args.value) k) (sym w.0) (no_array (view c.args.value) k w.1))

pub returns-in_err-signature-in-Some : goal.returns-in_err-signature-in-Some
returns-in_err-signature-in-Some c =
    let p = err_from_is_err_and c.from_residual-in_err-signature-in-Some.result c.from_residual-in_err-signature-in-Some.ensures.1 in
    let w = c.in_err-signature-in-Some.ensures in
    let is = c.in_ok-items.ensures ∙ ap (λ z. array (views z)) c.in-Some.ensures in
    rw (p.1, p.2) (λ n k. subst (WrongSignature n (view c.args.value) k) (sym w.0) (subst (λ z. WrongSignature n z k unexpected) (sym is) (no_bytes _ _ _ k w.1)))

pub returns-in_err-entries-in-Some : goal.returns-in_err-entries-in-Some
returns-in_err-entries-in-Some c =
    let p = err_from_is_err_and c.from_residual-in_err-entries-in-Some.result c.from_residual-in_err-entries-in-Some.ensures.1 in
    let w = c.in_err-entries-in-Some.ensures in
    let is = c.in_ok-items.ensures ∙ ap (λ z. array (views z)) c.in-Some.ensures in
    rw (p.1, p.2) (λ n k. subst (WrongSignature n (view c.args.value) k) (sym w.0) (subst (λ z. WrongSignature n z k unexpected) (sym is) (in_unprotected _ _ _ k unexpected (no_map _ k w.1))))

pub returns-in-None : goal.returns-in-None
returns-in-None c = λ n k. subst (λ z. WrongSignature n z k unexpected) (sym c.in_ok-items.ensures) (not_three _ k (λ e. c.in-None.ensures (sym (views_count c.in_ok-items.items.items) ∙ e)))
