use Rattle.std.proofs.Common.{take}
use Rattle.ciborium_value.specs.View.{views, view_pairs}
use Rattle.ciborium.specs.Meaning.{AllAssigned, PairsAssigned}
use Rattle.ciborium.proofs.laws.+values_are_assigned.Given as goal

abbrev pub invariant-items : goal.invariant-items
invariant-items l = AllAssigned (views (take l.item-index l.item-items))

abbrev pub invariant-entries : goal.invariant-entries
invariant-entries l = PairsAssigned (view_pairs (take l.entry-index l.entry-items))
