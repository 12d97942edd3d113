use Rattle.std.proofs.Common.{List, ◌++◌, map, drop}
use Rattle.ciborium_value.specs.Tree as spec
use Rattle.ciborium_value.specs.View.{trees}
use Rattle.ciborium_traits.specs.Events.{Event, events, events_all}
use Rattle.ciborium_traits.proofs.list.VecSerialize.serialize.Given as goal

abbrev pub invariant-loop-item : goal.invariant-loop-item
invariant-loop-item g l =
    let s = g.S.Sink in
    let put = g.T.Serialize.put in
    (p : s.Plan) (es : List Event) → s.due p (events (spec.array (trees (map put l.self.items))) ++ es) l.fn.sink → s.due p (events_all (trees (map put (drop l.item-index l.self.items))) ++ es) l.sink
