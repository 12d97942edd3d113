use Rattle.std.proofs.Common.{suc, ◌∷◌, ◌++◌, map, drop, sym, ap, ◌∙◌, arith, drop-cons}
use Rattle.ciborium_value.specs.View.{view}
use Rattle.ciborium_traits.specs.Events.{events}
use Rattle.coset_labels.specs.Labels.{label_tree}
use Rattle.coset_labels.specs.View.{label_view}
use Rattle.coset_headers.specs.View.{entry_view}
use Rattle.coset_base.specs.Put.{entry_events}
use Rattle.coset_base.proofs.Left.{at_loop, same, goes_on, is_torn}
use Rattle.coset_base.proofs.sink.put_rest.Goals as goal

pub returns-in_err-put_label-clause-err : goal.returns-in_err-put_label-clause-err
returns-in_err-put_label-clause-err g c =
    let i = c.entries.entry-index in
    let e = c.entry-item.result in
    let more = drop (suc i) c.args.rest.now in
    is_torn g.S.Sink.torn c.from_residual.result _ (events (label_tree (label_view e.0))) (events (view e.1) ++ entry_events (map entry_view more))
    (same (at_loop g.S.Sink.due c.entries.invariant) (ap (λ z. entry_events (map entry_view z)) (drop-cons c.args.rest.now i e (omega arith) ∙ ap (λ z. z ∷ more) (sym c.entry-item.is)))) c.in_err-put_label.ensures.err

pub returns-in_err-serialize-clause-err : goal.returns-in_err-serialize-clause-err
returns-in_err-serialize-clause-err g c =
    let i = c.entries.entry-index in
    let e = c.entry-item.result in
    let more = drop (suc i) c.args.rest.now in
    let after = events (view e.1) ++ entry_events (map entry_view more) in
    is_torn g.S.Sink.torn c.from_residual-in_err-serialize.result _ (events (view e.1)) (entry_events (map entry_view more))
    (goes_on (events (label_tree (label_view e.0))) after
    (same (at_loop g.S.Sink.due c.entries.invariant) (ap (λ z. entry_events (map entry_view z)) (drop-cons c.args.rest.now i e (omega arith) ∙ ap (λ z. z ∷ more) (sym c.entry-item.is)))) c.in_ok-put_label.ensures.ok) c.in_err-serialize.ensures.err
