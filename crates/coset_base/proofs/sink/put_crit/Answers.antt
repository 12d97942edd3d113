use Rattle.std.proofs.Common.{pos, [], ◌∷◌, List, length, map}
use Rattle.ciborium_value.specs.View.{trees}
use Rattle.cose_iana.specs.Headers.{header_parameters}
use Rattle.ciborium_traits.specs.Events as event
use Rattle.ciborium_traits.specs.Events.{Event, events_all}
use Rattle.coset_labels.specs.Labels.{named_tree}
use Rattle.coset_labels.specs.View.{named_view}
use Rattle.coset_headers.proofs.Empty.{full_by}
use Rattle.coset_base.proofs.Events.{crit_opened}
use Rattle.coset_base.proofs.Left.{begins, goes_on, ends, ends_torn, is_torn}
use Rattle.coset_base.proofs.sink.put_crit.Goals as goal

pub returns-in_err-array-clause-err : goal.returns-in_err-array-clause-err
returns-in_err-array-clause-err g c =
    let xs = c.args.crit.now in
    let f = named_view header_parameters.number in
    let names = events_all (trees (map named_tree (map f xs))) in
    let n : List Event = event.array (length xs) ∷ names in
    is_torn g.S.Sink.torn c.from_residual-in_err-array.result _ (event.array (length xs) ∷ []) names
    (goes_on (event.integer (pos 2) ∷ []) n (begins g.S.Sink.due c.args.to.now (crit_opened f xs (full_by xs _ c.is_empty.ensures c.if-is_empty.false))) c.in_ok-put_number.ensures.ok) c.in_err-array.ensures.err

pub returns-clause-ok : goal.returns-clause-ok
returns-clause-ok g c =
    let xs = c.args.crit.now in
    let f = named_view header_parameters.number in
    let names = events_all (trees (map named_tree (map f xs))) in
    let n : List Event = event.array (length xs) ∷ names in
    ends c.put_names.result _ (goes_on (event.array (length xs) ∷ []) names
    (goes_on (event.integer (pos 2) ∷ []) n (begins g.S.Sink.due c.args.to.now (crit_opened f xs (full_by xs _ c.is_empty.ensures c.if-is_empty.false))) c.in_ok-put_number.ensures.ok) c.in_ok-array.ensures.ok) c.put_names.ensures.ok

pub returns-clause-err : goal.returns-clause-err
returns-clause-err g c =
    let xs = c.args.crit.now in
    let f = named_view header_parameters.number in
    let names = events_all (trees (map named_tree (map f xs))) in
    let n : List Event = event.array (length xs) ∷ names in
    ends_torn g.S.Sink.torn c.put_names.result _ (goes_on (event.array (length xs) ∷ []) names
    (goes_on (event.integer (pos 2) ∷ []) n (begins g.S.Sink.due c.args.to.now (crit_opened f xs (full_by xs _ c.is_empty.ensures c.if-is_empty.false))) c.in_ok-put_number.ensures.ok) c.in_ok-array.ensures.ok) c.put_names.ensures.err
