use Rattle.std.proofs.Common.{[], ◌∷◌, ◌++◌}
use Rattle.ciborium_traits.specs.Events as event
use Rattle.coset_headers.specs.Fields.{plain_part}
use Rattle.coset_headers.specs.View.{header_view, signatures_view}
use Rattle.coset_headers.specs.declared.header.Header.{out-Header}
use Rattle.coset_base.specs.Put.{name_events, string_events, signs_begun, signatures_put, entry_count}
use Rattle.coset_base.proofs.Events.{begun_opened}
use Rattle.coset_base.proofs.Left.{begins, goes_on, ends, ends_torn, is_torn}
use Rattle.coset_base.proofs.sink.begin_header.Goals as goal

pub returns-in_err-put_kinds-clause-err : goal.returns-in_err-put_kinds-clause-err
returns-in_err-put_kinds-clause-err g c =
    let h = c.args.header.now in
    let names = name_events (plain_part (header_view h)) in
    let others = string_events (plain_part (header_view h)) ++ signs_begun (signatures_put (signatures_view (out-Header h).counter_signatures.items)) in
    is_torn g.S.Sink.torn c.from_residual-in_err-put_kinds.result _ names others
    (goes_on (event.map (entry_count (header_view h)) ∷ []) (names ++ others) (begins g.S.Sink.due c.args.to.now (begun_opened h)) (rw c.count_entries.ensures at c.in_ok-map.ensures.ok)) c.in_err-put_kinds.ensures.err

pub returns-in_err-put_strings-clause-err : goal.returns-in_err-put_strings-clause-err
returns-in_err-put_strings-clause-err g c =
    let h = c.args.header.now in
    let names = name_events (plain_part (header_view h)) in
    let strings = string_events (plain_part (header_view h)) in
    let signs = signs_begun (signatures_put (signatures_view (out-Header h).counter_signatures.items)) in
    is_torn g.S.Sink.torn c.from_residual-in_err-put_strings.result _ strings signs
    (goes_on names (strings ++ signs)
    (goes_on (event.map (entry_count (header_view h)) ∷ []) (names ++ (strings ++ signs)) (begins g.S.Sink.due c.args.to.now (begun_opened h)) (rw c.count_entries.ensures at c.in_ok-map.ensures.ok))
    c.in_ok-put_kinds.ensures.ok) c.in_err-put_strings.ensures.err

pub returns-clause-ok : goal.returns-clause-ok
returns-clause-ok g c =
    let h = c.args.header.now in
    let names = name_events (plain_part (header_view h)) in
    let strings = string_events (plain_part (header_view h)) in
    let signs = signs_begun (signatures_put (signatures_view (out-Header h).counter_signatures.items)) in
    ends c.begin_counter.result _
    (goes_on strings signs
    (goes_on names (strings ++ signs)
    (goes_on (event.map (entry_count (header_view h)) ∷ []) (names ++ (strings ++ signs)) (begins g.S.Sink.due c.args.to.now (begun_opened h)) (rw c.count_entries.ensures at c.in_ok-map.ensures.ok))
    c.in_ok-put_kinds.ensures.ok) c.in_ok-put_strings.ensures.ok) (rw c.deref.ensures.value at c.begin_counter.ensures.ok)

pub returns-clause-err : goal.returns-clause-err
returns-clause-err g c =
    let h = c.args.header.now in
    let names = name_events (plain_part (header_view h)) in
    let strings = string_events (plain_part (header_view h)) in
    let signs = signs_begun (signatures_put (signatures_view (out-Header h).counter_signatures.items)) in
    ends_torn g.S.Sink.torn c.begin_counter.result _
    (goes_on strings signs
    (goes_on names (strings ++ signs)
    (goes_on (event.map (entry_count (header_view h)) ∷ []) (names ++ (strings ++ signs)) (begins g.S.Sink.due c.args.to.now (begun_opened h)) (rw c.count_entries.ensures at c.in_ok-map.ensures.ok))
    c.in_ok-put_kinds.ensures.ok) c.in_ok-put_strings.ensures.ok) (rw c.deref.ensures.value at c.begin_counter.ensures.err)
