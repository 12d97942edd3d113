use Rattle.std.proofs.Common.{◌≡◌, map, take}
use Rattle.ciborium_typed.proofs.Foldings.{fold_of, some_view, folds_of, some_views}
use Rattle.ciborium_typed.proofs.folded.+folded.Given as goal

abbrev pub invariant-items : goal.invariant-items
invariant-items l = map some_view l.copies.items ≡ map fold_of (take l.item-index l.item-items)

abbrev pub invariant-entries : goal.invariant-entries
invariant-entries l = map some_views l.copies.items ≡ map folds_of (take l.entry-index l.entry-items)
