use Rattle.std.proofs.Common.{ap}
use Rattle.ciborium_value.specs.View.{view, views}
use Rattle.std.specs.Vec.Iter.{into_iter_items}
use Rattle.ciborium_traits.proofs.Items.{if_err}
use Rattle.ciborium_traits.proofs.tuples.take_next.Goals as goal

pub returns-in-Some-clause-err : goal.returns-in-Some-clause-err
returns-in-Some-clause-err g c = if_err c.take.result (λ e h. (view c.in-Some.item, views (into_iter_items c.next.new.self), ap views c.in-Some.ensures.cases.0, h)) c.take.ensures.err
