use Rattle.std.proofs.Common.{◌≡◌, ◌∙◌, ap, subst, get_or, arith, Some, rules}
use Rattle.std.proofs.lemmas.Result.{err_from_is_err_and}
use Rattle.ciborium_value.specs.View.{view}
use Rattle.coset_labels.specs.Faults.{CantWrite}
use Rattle.coset_headers.specs.View.{signature_view}
use Rattle.coset_headers.specs.Written.{signature_tree}
use Rattle.coset_headers.proofs.Written.{split_at, signatures_done, signatures_fault, written_more}
use Rattle.coset_headers.proofs.writer.+writer.Goals as goal

pub take_signatures-returns-in_err-value : goal.take_signatures-returns-in_err-value
take_signatures-returns-in_err-value t c =
    let p = err_from_is_err_and c.from_residual-in_err-value.result c.from_residual-in_err-value.ensures.1 in
    let all = c.args.signatures.now.items in
    let i = c.signatures.signature-index in
    let r = c.signature-item.result in
    let here : get_or c.signatures.signature-items i r ≡ get_or all i r = c.signatures.invariant.later.1 i r (omega arith) ∙ ap (λ z. get_or z i r) c.deref_mut-signature-items.ensures.value in
    let w = split_at all i r (omega arith) in
    rw (p.1, p.2) (signatures_fault all _ w.0 _ _ w.1
    (subst (λ z. CantWrite (signature_tree (signature_view z)) c.in_err-value.field-0.0) here c.in_err-value.ensures))

pub take_signatures-signatures-preserved : goal.take_signatures-signatures-preserved
take_signatures-signatures-preserved t c =
    let all = c.args.signatures.now.items in
    let i = c.signatures.signature-index in
    let r = c.signature-item.result in
    let here : get_or c.signatures.signature-items i r ≡ get_or all i r = c.signatures.invariant.later.1 i r (omega arith) ∙ ap (λ z. get_or z i r) c.deref_mut-signature-items.ensures.value in
    let more = written_more all i r c.signatures.values.items c.push.new.self.items c.in_ok-value.value (omega arith) c.in_ok-push.ensures.items c.signatures.invariant.done
    (subst (λ z. signature_tree (signature_view z) ≡ Some (view c.in_ok-value.value)) here c.in_ok-value.ensures) in
    record { later = search rules; done = more; trees = signatures_done _ _ more }
