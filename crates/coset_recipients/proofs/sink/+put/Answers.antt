use Rattle.std.proofs.Common.{◌≡◌, sym, ap, subst, arith, rules, true}
use denote.Param.Weighed.{at_most}
use Rattle.ciborium_traits.specs.Events.{events_all}
use Rattle.coset_recipients.specs.View.{recipient_view, recipients_view}
use Rattle.coset_recipients.specs.declared.recipient.CoseRecipient.{out-CoseRecipient}
use Rattle.coset_recipients.specs.declared.recipient.CoseRecipient.TheViews.{size-CoseRecipient}
use Rattle.coset_recipients.specs.Put.{is_received_recipient, recipients_put, recipient_begun}
use Rattle.coset_recipients.proofs.Events.{recipient_opened}
use Rattle.coset_recipients.proofs.Received.{received_at}
use Rattle.coset_base.proofs.Left.{begins, goes_on, ends, ends_torn, is_torn}
use Rattle.coset_recipients.proofs.sink.+put.Goals as goal

pub put_recipient-returns-in_err-begin_recipient-clause-err : goal.put_recipient-returns-in_err-begin_recipient-clause-err
put_recipient-returns-in_err-begin_recipient-clause-err g t c =
    let r = c.args.recipient.now in
    is_torn g.S.Sink.torn c.from_residual.result _ (recipient_begun (recipient_view r)) (events_all (recipients_put (recipients_view (out-CoseRecipient r).recipients.items)))
    (begins g.S.Sink.due c.args.to.now (recipient_opened r)) c.in_err-begin_recipient.ensures.err

pub put_recipient-returns-clause-ok : goal.put_recipient-returns-clause-ok
put_recipient-returns-clause-ok g t c =
    let r = c.args.recipient.now in
    ends c.put_each.result _
    (goes_on (recipient_begun (recipient_view r)) (events_all (recipients_put (recipients_view (out-CoseRecipient r).recipients.items))) (begins g.S.Sink.due c.args.to.now (recipient_opened r)) c.in_ok-begin_recipient.ensures.ok)
    (rw c.deref.ensures.value at c.put_each.ensures.ok)

pub put_recipient-returns-clause-err : goal.put_recipient-returns-clause-err
put_recipient-returns-clause-err g t c =
    let r = c.args.recipient.now in
    ends_torn g.S.Sink.torn c.put_each.result _
    (goes_on (recipient_begun (recipient_view r)) (events_all (recipients_put (recipients_view (out-CoseRecipient r).recipients.items))) (begins g.S.Sink.due c.args.to.now (recipient_opened r)) c.in_ok-begin_recipient.ensures.ok)
    (rw c.deref.ensures.value at c.put_each.ensures.err)

pub put_each-put_recipient-requires : goal.put_each-put_recipient-requires
put_each-put_recipient-requires g t c κs within =
    let rs = c.args.recipients.now in
    let i = c.recipients.recipient-index in
    let is = c.recipient-item.is in
    let size = ap size-CoseRecipient is in
    let below = at_most size-CoseRecipient rs i c.recipient-item.result c.recipients-test.true in (
      omega (arith, c.decreases, size, below),
      (search rules, (search rules, subst (λ z. is_received_recipient (recipient_view z) ≡ true) (sym is) (received_at rs i _ c.recipients-test.true c.requires))),
    )
