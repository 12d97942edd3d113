use Rattle.ciborium_value.specs.Tree.{array}
use Rattle.ciborium_traits.specs.Events.{events}
use Rattle.coset_headers.specs.View.{signatures_view}
use Rattle.coset_recipients.specs.PartsView.{parts_in}
use Rattle.coset_recipients.specs.Put.{begun}
use Rattle.coset_recipients.proofs.Events.{item_last}
use Rattle.coset_base.specs.Put.{signatures_put}
use Rattle.coset_base.proofs.Left.{begins, goes_on, ends_torn, is_torn}
use Rattle.coset_signed.proofs.sink.put_sign.Goals as goal

pub returns-in_err-begin_parts-clause-err : goal.returns-in_err-begin_parts-clause-err
returns-in_err-begin_parts-clause-err g c =
    let m = c.args.message.now in
    let f = parts_in m.protected m.unprotected m.payload in
    let t = array (signatures_put (signatures_view m.signatures.items)) in
    is_torn g.S.Sink.torn c.from_residual.result _ (begun 4 f) (events t) (begins g.S.Sink.due c.args.to.now (item_last f t)) c.in_err-begin_parts.ensures.err

pub returns-clause-err : goal.returns-clause-err
returns-clause-err g c =
    let m = c.args.message.now in
    let f = parts_in m.protected m.unprotected m.payload in
    let t = array (signatures_put (signatures_view m.signatures.items)) in
    ends_torn g.S.Sink.torn c.put_signatures.result _ (goes_on (begun 4 f) (events t) (begins g.S.Sink.due c.args.to.now (item_last f t)) c.in_ok-begin_parts.ensures.ok)
    (rw c.deref.ensures.value at c.put_signatures.ensures.err)
