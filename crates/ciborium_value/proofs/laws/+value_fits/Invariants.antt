use Rattle.std.proofs.Common.{take}
use Rattle.ciborium_value.specs.Encoding.{FitAll, FitPairs}
use Rattle.ciborium_value.specs.View.{views, view_pairs}
use Rattle.ciborium_value.proofs.laws.+value_fits.Given as goal

abbrev pub invariant-items : goal.invariant-items
invariant-items l = FitAll (views (take l.item-index l.item-items))

abbrev pub invariant-entries : goal.invariant-entries
invariant-entries l = FitPairs (view_pairs (take l.entry-index l.entry-items))
