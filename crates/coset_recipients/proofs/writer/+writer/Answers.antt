use Rattle.std.proofs.Common.{rules, sym, ap, ◌∙◌, arith, subst, map, take_all, option_map}
use Rattle.std.proofs.lemmas.Result.{err_from_is_err_and}
use Rattle.ciborium_value.specs.View.{view, views}
use Rattle.coset_labels.specs.Arrays.{all_written}
use Rattle.coset_labels.specs.Faults.{CantWrite}
use Rattle.coset_labels.proofs.Items.{match_map}
use Rattle.coset_recipients.specs.View.{recipient_view, recipients_view}
use Rattle.coset_recipients.specs.Written.{whole, recipient_tree, recipients_trees}
use Rattle.coset_recipients.proofs.Written.{parted, recipients_more, recipients_done, recipients_fault, parts_fault, parts_kept, recipient_wrote}
use Rattle.coset_recipients.proofs.writer.+writer.Goals as goal

pub take_recipient-returns : goal.take_recipient-returns
take_recipient-returns t c =
    let r = c.args.recipient.now in
    match_map c.take_parts.result _ _ _ _
    (λ v e. recipient_wrote r (views c.in_ok-inner.inner.items) (view v) (ap (λ z. recipients_trees (recipients_view z)) (sym c.deref_mut.ensures.value) ∙ c.in_ok-inner.ensures)
    (ap (option_map (λ parts. whole parts (views c.in_ok-inner.inner.items))) (sym (parts_kept r _)) ∙ e))
    (λ e w. parts_fault r e (subst (λ o. CantWrite o e) (parts_kept r _) w))
    c.take_parts.ensures

pub take_recipients-returns-in_err-value : goal.take_recipients-returns-in_err-value
take_recipients-returns-in_err-value t c =
    let p = err_from_is_err_and c.from_residual-in_err-value.result c.from_residual-in_err-value.ensures.1 in
    let i = c.recipients.recipient-index in
    rw (p.1, p.2) (recipients_fault c.args.recipients.now _ _ _ _ (parted c.args.recipients.now i _ c.recipient-item.result (omega arith) (c.recipients.invariant.0.1 i c.recipient-item.result (omega arith))) c.in_err-value.ensures)

pub take_recipients-recipients-preserved : goal.take_recipients-recipients-preserved
take_recipients-recipients-preserved t c =
    let i = c.recipients.recipient-index in (
      search rules,
      recipients_more c.args.recipients.now i _ c.recipient-item.result c.recipients.values.items _ _ (omega arith) (c.recipients.invariant.0.1 i c.recipient-item.result (omega arith)) c.in_ok-push.ensures.items c.recipients.invariant.1 c.in_ok-value.ensures,
    )

pub take_recipients-returns : goal.take_recipients-returns
take_recipients-returns t c =
    recipients_done c.args.recipients.now c.recipients.values.items
    (ap (λ z. all_written recipient_tree (map recipient_view z)) (sym (take_all c.recipients.recipient-index c.args.recipients.now (omega arith))) ∙ c.recipients.invariant.1)
