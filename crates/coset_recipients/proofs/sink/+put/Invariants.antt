use Rattle.std.proofs.Common.{List, ◌++◌, drop}
use Rattle.ciborium_traits.specs.Events.{Event, events_all}
use Rattle.coset_recipients.specs.View.{recipients_view}
use Rattle.coset_recipients.specs.Put.{recipients_put}
use Rattle.coset_recipients.proofs.sink.+put.Given as goal

abbrev pub invariant-put_each-recipients : goal.invariant-put_each-recipients
invariant-put_each-recipients g l =
    let s = g.S.Sink in
    (p : s.Plan) (es : List Event) → s.due p (events_all (recipients_put (recipients_view l.recipients)) ++ es) l.fn.to
    → s.due p (events_all (recipients_put (recipients_view (drop l.recipient-index l.recipients))) ++ es) l.to
