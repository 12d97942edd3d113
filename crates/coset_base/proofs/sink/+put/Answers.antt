use Rattle.std.proofs.Common.{◌≡◌, ◌++◌, true, map, sym, ap, subst, arith, rules}
use denote.Param.Weighed.{at_most}
use Rattle.ciborium_traits.specs.Events.{events_all}
use Rattle.coset_base.specs.Put.{entry_events, header_begun, signatures_put}
use Rattle.coset_headers.specs.Received.{is_received_signature}
use Rattle.coset_headers.specs.View.{header_view, signature_view, signatures_view, entry_view}
use Rattle.coset_headers.specs.declared.header.CoseSignature.TheViews.{size-CoseSignature}
use Rattle.coset_headers.specs.declared.header.Header.{out-Header}
use Rattle.coset_base.proofs.Events.{header_opened}
use Rattle.coset_base.proofs.Left.{begins, goes_on, ends, ends_torn, is_torn}
use Rattle.coset_base.proofs.Received.{received_at}
use Rattle.coset_base.proofs.sink.+put.Goals as goal

pub put_header-returns-in_err-begin_header-clause-err : goal.put_header-returns-in_err-begin_header-clause-err
put_header-returns-in_err-begin_header-clause-err g t c =
    let h = c.args.header.now in
    let signs = events_all (signatures_put (signatures_view (out-Header h).counter_signatures.items)) in
    is_torn g.S.Sink.torn c.from_residual.result _ (header_begun (header_view h)) (signs ++ entry_events (map entry_view (out-Header h).rest.items))
    (begins g.S.Sink.due c.args.to.now (header_opened h)) c.in_err-begin_header.ensures.err

pub put_header-returns-in_err-put_each-clause-err : goal.put_header-returns-in_err-put_each-clause-err
put_header-returns-in_err-put_each-clause-err g t c =
    let h = c.args.header.now in
    let signs = events_all (signatures_put (signatures_view (out-Header h).counter_signatures.items)) in
    let others = entry_events (map entry_view (out-Header h).rest.items) in
    is_torn g.S.Sink.torn c.from_residual-in_err-put_each.result _ signs others
    (goes_on (header_begun (header_view h)) (signs ++ others) (begins g.S.Sink.due c.args.to.now (header_opened h)) c.in_ok-begin_header.ensures.ok) (rw c.deref.ensures.value at c.in_err-put_each.ensures.err)

pub put_header-returns-clause-ok : goal.put_header-returns-clause-ok
put_header-returns-clause-ok g t c =
    let h = c.args.header.now in
    let signs = events_all (signatures_put (signatures_view (out-Header h).counter_signatures.items)) in
    let others = entry_events (map entry_view (out-Header h).rest.items) in
    ends c.put_rest.result _
    (goes_on signs others
    (goes_on (header_begun (header_view h)) (signs ++ others) (begins g.S.Sink.due c.args.to.now (header_opened h)) c.in_ok-begin_header.ensures.ok) (rw c.deref.ensures.value at c.in_ok-put_each.ensures.ok))
    (rw c.deref-2.ensures.value at c.put_rest.ensures.ok)

pub put_header-returns-clause-err : goal.put_header-returns-clause-err
put_header-returns-clause-err g t c =
    let h = c.args.header.now in
    let signs = events_all (signatures_put (signatures_view (out-Header h).counter_signatures.items)) in
    let others = entry_events (map entry_view (out-Header h).rest.items) in
    ends_torn g.S.Sink.torn c.put_rest.result _
    (goes_on signs others
    (goes_on (header_begun (header_view h)) (signs ++ others) (begins g.S.Sink.due c.args.to.now (header_opened h)) c.in_ok-begin_header.ensures.ok) (rw c.deref.ensures.value at c.in_ok-put_each.ensures.ok))
    (rw c.deref-2.ensures.value at c.put_rest.ensures.err)

pub put_each-put_signature-requires : goal.put_each-put_signature-requires
put_each-put_signature-requires g t c κs within =
    let ss = c.args.signatures.now in
    let i = c.signatures.signature-index in
    let is = c.signature-item.is in
    let size = ap size-CoseSignature is in
    let below = at_most size-CoseSignature ss i c.signature-item.result c.signatures-test.true in (
      omega (arith, c.decreases, size, below),
      (search rules, (search rules, subst (λ z. is_received_signature (signature_view z) ≡ true) (sym is) (received_at ss i _ c.signatures-test.true c.requires))),
    )
