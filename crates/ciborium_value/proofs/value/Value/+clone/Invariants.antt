use Rattle.std.proofs.Common.{◌≡◌, map, take}
use Rattle.ciborium_value.specs.View.{view, view_pair}
use Rattle.ciborium_value.proofs.value.Value.+clone.Given as goal

abbrev pub invariant-loop-item : goal.invariant-loop-item
invariant-loop-item l = map view l.copies.items ≡ map view (take l.item-index l.item-items)

abbrev pub invariant-loop-entry : goal.invariant-loop-entry
invariant-loop-entry l = map view_pair l.copies.items ≡ map view_pair (take l.entry-index l.entry-items)
