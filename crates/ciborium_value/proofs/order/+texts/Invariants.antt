use Rattle.std.proofs.Common.{◌≡◌, ◌+◌, ◌*◌}
use Rattle.std.specs.Iterator.Adapters.{zip_first, zip_second}
use Rattle.std.specs.Slice.Iter.{iter_rest}
use Rattle.ciborium_value.specs.Facts.Heads.{all_cmp, each_cmp}
use Rattle.ciborium_value.specs.View.{views, view_pairs}
use Rattle.ciborium_value.proofs.order.+texts.Given as goal

abbrev pub invariant-cmp_entries-loop-x : goal.invariant-cmp_entries-loop-x
invariant-cmp_entries-loop-x l = each_cmp (view_pairs l.a) (view_pairs l.b) ≡ each_cmp (view_pairs (iter_rest (zip_first l.x-iterator))) (view_pairs (iter_rest (zip_second l.x-iterator)))

abbrev pub invariant-cmp_items-loop-x : goal.invariant-cmp_items-loop-x
invariant-cmp_items-loop-x l = all_cmp (views l.a) (views l.b) ≡ all_cmp (views (iter_rest (zip_first l.x-iterator))) (views (iter_rest (zip_second l.x-iterator)))

-- the size, and at one size entries before an entry, and items before the text
abbrev pub decreases-cmp_texts : goal.decreases-cmp_texts
decreases-cmp_texts l = 4 * goal.size-cmp_texts l

abbrev pub decreases-cmp_items : goal.decreases-cmp_items
decreases-cmp_items l = 4 * goal.size-cmp_items l + 1

abbrev pub decreases-cmp_entries : goal.decreases-cmp_entries
decreases-cmp_entries l = 4 * goal.size-cmp_entries l + 2

abbrev pub decreases-cmp_entry : goal.decreases-cmp_entry
decreases-cmp_entry l = 4 * goal.size-cmp_entry l + 1
