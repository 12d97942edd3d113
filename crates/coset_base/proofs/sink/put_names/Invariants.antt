use Rattle.std.proofs.Common.{List, ◌++◌, drop, map}
use Rattle.cose_iana.specs.Headers.{header_parameters}
use Rattle.ciborium_value.specs.View.{trees}
use Rattle.ciborium_traits.specs.Events.{Event, events_all}
use Rattle.coset_labels.specs.Labels.{named_tree}
use Rattle.coset_labels.specs.View.{named_view}
use Rattle.coset_base.proofs.sink.put_names.Given as goal

abbrev pub invariant-names : goal.invariant-names
invariant-names g l =
    let s = g.S.Sink in
    (p : s.Plan) (es : List Event) → s.due p (events_all (trees (map named_tree (map (named_view header_parameters.number) l.names))) ++ es) l.fn.to
    → s.due p (events_all (trees (map named_tree (map (named_view header_parameters.number) (drop l.name-index l.names)))) ++ es) l.to
