use Rattle.std.proofs.Common.{ap, ◌∙◌}
use Rattle.coset_recipients.specs.PartsView.{parts_in}
use Rattle.coset_recipients.specs.View.{recipients_view}
use Rattle.coset_recipients.specs.declared.recipient.CoseRecipient.{out-CoseRecipient}
use Rattle.coset_recipients.specs.Put.{begun, inner_begun, item_count, recipients_put}
use Rattle.coset_recipients.proofs.Events.{begun_opened}
use Rattle.coset_base.proofs.Left.{begins, goes_on, ends, ends_torn, is_torn}
use Rattle.coset_recipients.proofs.sink.begin_recipient.Goals as goal

pub returns-in_err-begin_parts-clause-err : goal.returns-in_err-begin_parts-clause-err
returns-in_err-begin_parts-clause-err g c =
    let o = out-CoseRecipient c.args.recipient.now in
    let ts = recipients_put (recipients_view o.recipients.items) in
    is_torn g.S.Sink.torn c.from_residual.result _ (begun (item_count ts) (parts_in o.protected o.unprotected o.ciphertext)) (inner_begun ts)
    (begins g.S.Sink.due c.args.to.now (begun_opened c.args.recipient.now)) (rw (c.count_items.ensures ∙ ap (λ z. item_count (recipients_put (recipients_view z))) c.deref.ensures.value) at c.in_err-begin_parts.ensures.err)

pub returns-clause-ok : goal.returns-clause-ok
returns-clause-ok g c =
    let o = out-CoseRecipient c.args.recipient.now in
    let ts = recipients_put (recipients_view o.recipients.items) in
    ends c.begin_inner.result _
    (goes_on (begun (item_count ts) (parts_in o.protected o.unprotected o.ciphertext)) (inner_begun ts)
    (begins g.S.Sink.due c.args.to.now (begun_opened c.args.recipient.now)) (rw (c.count_items.ensures ∙ ap (λ z. item_count (recipients_put (recipients_view z))) c.deref.ensures.value) at c.in_ok-begin_parts.ensures.ok))
    (rw c.deref-2.ensures.value at c.begin_inner.ensures.ok)

pub returns-clause-err : goal.returns-clause-err
returns-clause-err g c =
    let o = out-CoseRecipient c.args.recipient.now in
    let ts = recipients_put (recipients_view o.recipients.items) in
    ends_torn g.S.Sink.torn c.begin_inner.result _
    (goes_on (begun (item_count ts) (parts_in o.protected o.unprotected o.ciphertext)) (inner_begun ts)
    (begins g.S.Sink.due c.args.to.now (begun_opened c.args.recipient.now)) (rw (c.count_items.ensures ∙ ap (λ z. item_count (recipients_put (recipients_view z))) c.deref.ensures.value) at c.in_ok-begin_parts.ensures.ok))
    (rw c.deref-2.ensures.value at c.begin_inner.ensures.err)
