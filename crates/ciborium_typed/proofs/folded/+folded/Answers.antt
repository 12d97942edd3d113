use Rattle.std.proofs.Common.{inl, inr, take_all, arith}
use Rattle.ciborium_typed.proofs.Foldings.{array_none, array_folded, map_none, map_folded}
use Rattle.ciborium_typed.proofs.folded.+folded.Goals as goal

pub returns-in-None-2 : goal.returns-in-None-2
returns-in-None-2 t c =
    let h = rw c.in-None-2.is at c.in_ok-copy-in-Array.ensures in
    array_none _ c.in-Array.items c.deref-item-items.result.now c.items.item-index c.item-item.result c.in-Array.is c.deref-item-items.ensures.value (omega arith) c.item-item.is h

pub returns-in_default : goal.returns-in_default
returns-in_default t c =
    let h = rw c.in_default.is at c.in_ok-key-in-Map.ensures in
    map_none _ c.in-Map.entries c.deref-entry-items.result.now c.entries.entry-index c.entry-item.result c.in-Map.is c.deref-entry-items.ensures.value (omega arith) c.entry-item.is (inl h)

pub returns-in_default-2 : goal.returns-in_default-2
returns-in_default-2 t c =
    let h = rw c.in_default-2.is at c.in_ok-value-in-Map.ensures in
    map_none _ c.in-Map.entries c.deref-entry-items.result.now c.entries.entry-index c.entry-item.result c.in-Map.is c.deref-entry-items.ensures.value (omega arith) c.entry-item.is (inr h)

pub returns-after-items : goal.returns-after-items
returns-after-items t c =
    array_folded _ c.in-Array.items c.deref-item-items.result.now c.items.copies c.items.item-index c.in-Array.is c.deref-item-items.ensures.value c.items.invariant (take_all c.items.item-index c.deref-item-items.result.now (omega arith))

pub returns-after-entries : goal.returns-after-entries
returns-after-entries t c =
    map_folded _ c.in-Map.entries c.deref-entry-items.result.now c.entries.copies c.entries.entry-index c.in-Map.is c.deref-entry-items.ensures.value c.entries.invariant (take_all c.entries.entry-index c.deref-entry-items.result.now (omega arith))
