use Rattle.std.proofs.Common.{◌<◌, ◌^◌, ◌∙◌, ap, subst, arith}
use Rattle.ciborium_value.specs.Encoding.{enc_all, enc_pairs}
use Rattle.ciborium_value.specs.View.{views, view_pairs}
use Rattle.ciborium_value.specs.Canonical.{counted}
use Rattle.ciborium_value.specs.Facts.Heads.{SizedAll, SizedPairs}
use Rattle.ciborium_value.proofs.Lengths.{array_len, map_len, array_sized, map_sized, step, entry_step}
use Rattle.ciborium_value.proofs.length.+lengths.Goals as goal

pub encoded_len-returns-in-Array-clause-len : goal.encoded_len-returns-in-Array-clause-len
encoded_len-returns-in-Array-clause-len t c =
    c.saturating_add-in-Array.ensures
    ∙ array_len c.args.value.now c.in-Array.items c.in-Array.is _ _ _ c.len-in-Array.ensures c.title_len-in-Array.ensures (c.items_len.ensures.len ∙ ap (λ z. counted (enc_all (views z))) c.deref-in-Array.ensures.value)

pub encoded_len-returns-in-Array-clause-sized : goal.encoded_len-returns-in-Array-clause-sized
encoded_len-returns-in-Array-clause-sized t c =
    let l : c.len-in-Array.result < 2 ^ 64 = omega (arith, c.len-in-Array.type_inv) in
    array_sized c.args.value.now c.in-Array.items c.len-in-Array.result c.in-Array.is c.len-in-Array.ensures l (subst (λ z. SizedAll (views z)) c.deref-in-Array.ensures.value c.items_len.ensures.sized)

pub encoded_len-returns-in-Map-clause-len : goal.encoded_len-returns-in-Map-clause-len
encoded_len-returns-in-Map-clause-len t c =
    c.saturating_add-in-Map.ensures
    ∙ map_len c.args.value.now c.in-Map.entries c.in-Map.is _ _ _ c.len-in-Map.ensures c.title_len-in-Map.ensures (c.entries_len.ensures.len ∙ ap (λ z. counted (enc_pairs (view_pairs z))) c.deref-in-Map.ensures.value)

pub encoded_len-returns-in-Map-clause-sized : goal.encoded_len-returns-in-Map-clause-sized
encoded_len-returns-in-Map-clause-sized t c =
    let l : c.len-in-Map.result < 2 ^ 64 = omega (arith, c.len-in-Map.type_inv) in
    map_sized c.args.value.now c.in-Map.entries c.len-in-Map.result c.in-Map.is c.len-in-Map.ensures l (subst (λ z. SizedPairs (view_pairs z)) c.deref-in-Map.ensures.value c.entries_len.ensures.sized)

pub items_len-loop-item-preserved : goal.items_len-loop-item-preserved
items_len-loop-item-preserved t c =
    let h = step c.args.items.now c.loop-item.item-index c.item-item.result c.loop-item-test.true c.item-item.is c.loop-item.invariant.sized c.encoded_len.ensures.sized in
    record {
      small = omega (arith, c.saturating_add-total.ensures);
      rest = omega (arith, h.0, c.saturating_add-total.ensures, c.encoded_len.ensures.len, c.loop-item.invariant.rest, c.loop-item.invariant.small);
      sized = h.1;
    }

pub entries_len-loop-entry-preserved : goal.entries_len-loop-entry-preserved
entries_len-loop-entry-preserved t c =
    let h = entry_step c.args.entries.now c.loop-entry.entry-index c.entry-item.result c.loop-entry-test.true c.entry-item.is c.loop-entry.invariant.sized c.encoded_len.ensures.sized c.encoded_len-in-loop-entry.ensures.sized in
    record {
      small = omega (arith, c.saturating_add-total.ensures);
      rest = omega (arith, h.0, c.saturating_add.ensures, c.saturating_add-total.ensures, c.encoded_len.ensures.len, c.encoded_len-in-loop-entry.ensures.len, c.loop-entry.invariant.rest, c.loop-entry.invariant.small);
      sized = h.1;
    }
