use Rattle.std.proofs.Common.{◌≡◌, map, take}
use Rattle.coset_labels.specs.View.{entry_view}
use Rattle.coset_labels.proofs.copies.clone_entries.Given as goal

abbrev pub invariant-loop-entry : goal.invariant-loop-entry
invariant-loop-entry g l =
    map (entry_view g.K.AsCborValue.fields) l.copies.items ≡ map (entry_view g.K.AsCborValue.fields) (take l.entry-index l.entries)
