use Rattle.ciborium_traits.proofs.Items.{TakenTo}
use Rattle.ciborium_traits.proofs.list.take_items.Given as goal

abbrev pub invariant-loop-item : goal.invariant-loop-item
invariant-loop-item g l = TakenTo g.T.Deserialize.refusal g.T.Deserialize.takes l.fn.items.items l.item-iterator.rest.items l.taken.items
