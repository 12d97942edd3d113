use Rattle.coset_base.specs.Put.{entry_events}
use Rattle.coset_headers.specs.Written.{bytes_entry}
use Rattle.coset_headers.specs.declared.header.Header.{out-Header}
use Rattle.coset_base.proofs.Events.{strings_opened}
use Rattle.coset_base.proofs.Left.{begins, goes_on, ends_torn, is_torn}
use Rattle.coset_base.proofs.sink.put_strings.Goals as goal

pub returns-in_err-put_bytes-clause-err : goal.returns-in_err-put_bytes-clause-err
returns-in_err-put_bytes-clause-err g c =
    let h = out-Header c.args.header.now in
    is_torn g.S.Sink.torn c.from_residual.result _ (entry_events (bytes_entry 4 h.key_id.items)) _
    (begins g.S.Sink.due c.args.to.now (strings_opened c.args.header.now)) (rw c.deref.ensures.value at c.in_err-put_bytes.ensures.err)

pub returns-in_err-put_bytes-2-clause-err : goal.returns-in_err-put_bytes-2-clause-err
returns-in_err-put_bytes-2-clause-err g c =
    let h = out-Header c.args.header.now in
    let is = entry_events (bytes_entry 5 h.iv.items) in
    is_torn g.S.Sink.torn c.from_residual-in_err-put_bytes-2.result _ is _
    (goes_on (entry_events (bytes_entry 4 h.key_id.items)) _ (begins g.S.Sink.due c.args.to.now (strings_opened c.args.header.now)) (rw c.deref.ensures.value at c.in_ok-put_bytes.ensures.ok))
    (rw c.deref-2.ensures.value at c.in_err-put_bytes-2.ensures.err)

pub returns-clause-err : goal.returns-clause-err
returns-clause-err g c =
    let h = out-Header c.args.header.now in
    let is = entry_events (bytes_entry 5 h.iv.items) in
    ends_torn g.S.Sink.torn c.put_bytes-3.result _
    (goes_on is _
    (goes_on (entry_events (bytes_entry 4 h.key_id.items)) _ (begins g.S.Sink.due c.args.to.now (strings_opened c.args.header.now)) (rw c.deref.ensures.value at c.in_ok-put_bytes.ensures.ok))
    (rw c.deref-2.ensures.value at c.in_ok-put_bytes-2.ensures.ok)) (rw c.deref-3.ensures.value at c.put_bytes-3.ensures.err)
