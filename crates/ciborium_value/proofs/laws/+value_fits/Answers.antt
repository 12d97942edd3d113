use Rattle.std.proofs.Common.{arith}
use Rattle.ciborium_value.proofs.Fitting.{tag_fits, item_fits, entry_fits, array_fits, map_fits}
use Rattle.ciborium_value.proofs.laws.+value_fits.Goals as goal

pub returns-in-Tag : goal.returns-in-Tag
returns-in-Tag t c = tag_fits _ _ c.in-Tag.content _ c.in-Tag.is c.deref.ensures c.header_fits-in-Tag.ensures c.value_fits.ensures

pub items-preserved : goal.items-preserved
items-preserved t c = item_fits c.deref-item-items.result.now c.items.item-index _ (omega arith) c.item-item.is c.items.invariant c.value_fits-in-items.ensures

pub returns-after-items : goal.returns-after-items
returns-after-items t c = array_fits _ c.in-Array.items c.deref-item-items.result.now c.items.item-index c.in-Array.is c.deref-item-items.ensures.value (omega arith) (omega arith) c.items.invariant

pub entries-preserved : goal.entries-preserved
entries-preserved t c = entry_fits c.deref-entry-items.result.now c.entries.entry-index _ (omega arith) c.entry-item.is c.entries.invariant c.value_fits-in-entries.ensures c.value_fits-in-entries-2.ensures

pub returns-after-entries : goal.returns-after-entries
returns-after-entries t c = map_fits _ c.in-Map.entries c.deref-entry-items.result.now c.entries.entry-index c.in-Map.is c.deref-entry-items.ensures.value (omega arith) (omega arith) c.entries.invariant
