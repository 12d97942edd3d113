use Rattle.std.proofs.Common.{List, ◌++◌, drop, map}
use Rattle.ciborium_traits.specs.Events.{Event}
use Rattle.coset_headers.specs.View.{entry_view}
use Rattle.coset_base.specs.Put.{entry_events}
use Rattle.coset_base.proofs.sink.put_rest.Given as goal

abbrev pub invariant-entries : goal.invariant-entries
invariant-entries g l =
    let s = g.S.Sink in
    (p : s.Plan) (es : List Event) → s.due p (entry_events (map entry_view l.rest) ++ es) l.fn.to → s.due p (entry_events (map entry_view (drop l.entry-index l.rest)) ++ es) l.to
