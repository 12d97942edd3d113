use Rattle.std.proofs.Common.{arith}
use Rattle.ciborium.proofs.AssignedValues.{item_assigned, entry_assigned, array_assigned, map_assigned}
use Rattle.ciborium.proofs.laws.+values_are_assigned.Goals as goal

pub items-preserved : goal.items-preserved
items-preserved t c = item_assigned c.deref-item-items.result.now c.items.item-index _ (omega arith) c.item-item.is c.items.invariant c.values_are_assigned-in-items.ensures

pub returns-after-items : goal.returns-after-items
returns-after-items t c = array_assigned _ c.in-Array.items c.deref-item-items.result.now c.items.item-index c.in-Array.is c.deref-item-items.ensures.value (omega arith) c.items.invariant

pub entries-preserved : goal.entries-preserved
entries-preserved t c = entry_assigned c.deref-entry-items.result.now c.entries.entry-index _ (omega arith) c.entry-item.is c.entries.invariant c.values_are_assigned-in-entries.ensures c.values_are_assigned-in-entries-2.ensures

pub returns-after-entries : goal.returns-after-entries
returns-after-entries t c = map_assigned _ c.in-Map.entries c.deref-entry-items.result.now c.entries.entry-index c.in-Map.is c.deref-entry-items.ensures.value (omega arith) c.entries.invariant
