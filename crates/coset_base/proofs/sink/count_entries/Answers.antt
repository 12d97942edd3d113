use Rattle.std.proofs.Common.{refl}
use Rattle.cose_iana.specs.Algorithms.{algorithm_number}
use Rattle.cose_iana.specs.Formats.{coap_content_formats}
use Rattle.cose_iana.specs.Headers.{header_parameters}
use Rattle.coset_labels.specs.View.{registered_view, named_view}
use Rattle.coset_headers.specs.declared.header.Header.{out-Header}
use Rattle.coset_base.proofs.Events.{name_counted, crit_counted, bytes_counted, several_counted, rest_counted, entries_counted}
use Rattle.coset_base.proofs.sink.count_entries.Goals as goal

pub returns : goal.returns
returns c =
    let h = c.args.header.now in
    let o = out-Header h in
    entries_counted h _ _ _ _ _ _ _ _
    (name_counted 1 (named_view algorithm_number) o.alg c.is_some.result c.one.result c.one.ensures.value c.is_some.ensures)
    (crit_counted (named_view header_parameters.number) o.crit c.is_empty.result c.one-2.result c.one-2.ensures.value c.is_empty.ensures)
    (name_counted 3 (registered_view coap_content_formats.number) o.content_type c.is_some-2.result c.one-3.result c.one-3.ensures.value c.is_some-2.ensures)
    (bytes_counted 4 o.key_id c.is_empty-2.result c.one-4.result c.one-4.ensures.value c.is_empty-2.ensures)
    (bytes_counted 5 o.iv c.is_empty-3.result c.one-5.result c.one-5.ensures.value c.is_empty-3.ensures)
    (bytes_counted 6 o.partial_iv c.is_empty-4.result c.one-6.result c.one-6.ensures.value c.is_empty-4.ensures)
    (several_counted c.deref.result.now o.counter_signatures.items c.has_signatures.result c.one-7.result c.one-7.ensures.value c.has_signatures.ensures c.deref.ensures.value)
    (rest_counted c.deref-rest.result.now o.rest.items _ refl c.deref-rest.ensures.value)
