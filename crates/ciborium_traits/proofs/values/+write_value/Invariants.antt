use Rattle.std.proofs.Common.{List, ◌++◌, drop}
use Rattle.ciborium_value.specs.View.{view, views, view_pairs}
use Rattle.ciborium_traits.specs.Events.{Event, events, events_all, events_pairs}
use Rattle.ciborium_traits.proofs.values.+write_value.Given as goal

abbrev pub invariant-items : goal.invariant-items
invariant-items g l =
    let s = g.S.Sink in
    (p : s.Plan) (es : List Event) → s.due p (events (view l.value) ++ es) l.fn.sink → s.due p (events_all (views (drop l.item-index l.item-items)) ++ es) l.sink

abbrev pub invariant-entries : goal.invariant-entries
invariant-entries g l =
    let s = g.S.Sink in
    (p : s.Plan) (es : List Event) → s.due p (events (view l.value) ++ es) l.fn.sink → s.due p (events_pairs (view_pairs (drop l.entry-index l.entry-items)) ++ es) l.sink
