use Rattle.std.proofs.Common.{[], ◌∷◌}
use Rattle.ciborium_value.specs.Tree.{array}
use Rattle.ciborium_traits.specs.Events as event
use Rattle.ciborium_traits.specs.Events.{events}
use Rattle.coset_recipients.specs.PartsView.{parts_in}
use Rattle.coset_recipients.specs.View.{recipients_view}
use Rattle.coset_recipients.specs.Put.{begun, recipients_put}
use Rattle.coset_recipients.proofs.Events.{both_last}
use Rattle.coset_base.proofs.Left.{begins, goes_on, ends_torn, is_torn}
use Rattle.coset_maced.proofs.sink.put_mac.Goals as goal

pub returns-in_err-begin_parts-clause-err : goal.returns-in_err-begin_parts-clause-err
returns-in_err-begin_parts-clause-err g c =
    let m = c.args.message.now in
    let f = parts_in m.protected m.unprotected m.payload in
    let t = array (recipients_put (recipients_view m.recipients.items)) in
    is_torn g.S.Sink.torn c.from_residual.result _ (begun 5 f) (event.bytes m.tag.items ∷ events t) (begins g.S.Sink.due c.args.to.now (both_last f m.tag.items t)) c.in_err-begin_parts.ensures.err

pub returns-in_err-bytes-clause-err : goal.returns-in_err-bytes-clause-err
returns-in_err-bytes-clause-err g c =
    let m = c.args.message.now in
    let f = parts_in m.protected m.unprotected m.payload in
    let t = array (recipients_put (recipients_view m.recipients.items)) in
    is_torn g.S.Sink.torn c.from_residual-in_err-bytes.result _ (event.bytes m.tag.items ∷ []) (events t)
    (goes_on (begun 5 f) (event.bytes m.tag.items ∷ events t) (begins g.S.Sink.due c.args.to.now (both_last f m.tag.items t)) c.in_ok-begin_parts.ensures.ok) (rw c.deref.ensures.value at c.in_err-bytes.ensures.err)

pub returns-clause-err : goal.returns-clause-err
returns-clause-err g c =
    let m = c.args.message.now in
    let f = parts_in m.protected m.unprotected m.payload in
    let t = array (recipients_put (recipients_view m.recipients.items)) in
    ends_torn g.S.Sink.torn c.put_recipients.result _
    (goes_on (event.bytes m.tag.items ∷ []) (events t)
    (goes_on (begun 5 f) (event.bytes m.tag.items ∷ events t) (begins g.S.Sink.due c.args.to.now (both_last f m.tag.items t)) c.in_ok-begin_parts.ensures.ok) (rw c.deref.ensures.value at c.in_ok-bytes.ensures.ok))
    (rw c.deref-2.ensures.value at c.put_recipients.ensures.err)
