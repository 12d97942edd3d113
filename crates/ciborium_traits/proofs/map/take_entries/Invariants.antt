use Rattle.ciborium_traits.proofs.Items.{InsertedTo}
use Rattle.ciborium_traits.proofs.map.take_entries.Given as goal

abbrev pub invariant-entries : goal.invariant-entries
invariant-entries g l =
    InsertedTo g.K.Ord.cmp g.K.Deserialize.refusal g.V.Deserialize.refusal g.K.Deserialize.takes g.V.Deserialize.takes l.fn.entries.items l.entry-iterator.rest.items l.taken.entries
