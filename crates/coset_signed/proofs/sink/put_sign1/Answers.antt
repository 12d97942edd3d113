use Rattle.std.proofs.Common.{[], ◌∷◌}
use Rattle.ciborium_traits.specs.Events as event
use Rattle.coset_recipients.specs.PartsView.{parts_in}
use Rattle.coset_recipients.specs.Put.{begun}
use Rattle.coset_recipients.proofs.Events.{bytes_last}
use Rattle.coset_base.proofs.Left.{begins, goes_on, ends_torn, is_torn}
use Rattle.coset_signed.proofs.sink.put_sign1.Goals as goal

pub returns-in_err-begin_parts-clause-err : goal.returns-in_err-begin_parts-clause-err
returns-in_err-begin_parts-clause-err g c =
    let m = c.args.message.now in
    let f = parts_in m.protected m.unprotected m.payload in
    is_torn g.S.Sink.torn c.from_residual.result _ (begun 4 f) (event.bytes m.signature.items ∷ []) (begins g.S.Sink.due c.args.to.now (bytes_last f m.signature.items)) c.in_err-begin_parts.ensures.err

pub returns-clause-err : goal.returns-clause-err
returns-clause-err g c =
    let m = c.args.message.now in
    let f = parts_in m.protected m.unprotected m.payload in
    ends_torn g.S.Sink.torn c.bytes.result _ (goes_on (begun 4 f) (event.bytes m.signature.items ∷ []) (begins g.S.Sink.due c.args.to.now (bytes_last f m.signature.items)) c.in_ok-begin_parts.ensures.ok)
    (rw c.deref.ensures.value at c.bytes.ensures.err)
