use Rattle.std.proofs.Common.{List, ◌++◌, map}
use Rattle.ciborium_value.specs.Tree as spec
use Rattle.ciborium_value.specs.View.{pairs}
use Rattle.ciborium_traits.specs.Events.{Event, events, events_pairs}
use Rattle.ciborium_traits.proofs.map.BTreeMapSerialize.serialize.Given as goal

abbrev pub invariant-entries : goal.invariant-entries
invariant-entries g l =
    let s = g.S.Sink in
    (p : s.Plan) (es : List Event)
    → s.due p (events (spec.map (pairs (map (λ e. (g.K.Serialize.put e.0, g.V.Serialize.put e.1)) l.self.entries))) ++ es) l.fn.sink
    → s.due p (events_pairs (pairs (map (λ e. (g.K.Serialize.put e.0, g.V.Serialize.put e.1)) l.key-iterator)) ++ es) l.sink
