use Rattle.std.proofs.Common.{List, ◌++◌, drop}
use Rattle.ciborium_traits.specs.Events.{Event, events_all}
use Rattle.coset_base.specs.Put.{signatures_put}
use Rattle.coset_headers.specs.View.{signatures_view}
use Rattle.coset_base.proofs.sink.+put.Given as goal

abbrev pub invariant-put_each-signatures : goal.invariant-put_each-signatures
invariant-put_each-signatures g l =
    let s = g.S.Sink in
    (p : s.Plan) (es : List Event) → s.due p (events_all (signatures_put (signatures_view l.signatures)) ++ es) l.fn.to
    → s.due p (events_all (signatures_put (signatures_view (drop l.signature-index l.signatures))) ++ es) l.to
