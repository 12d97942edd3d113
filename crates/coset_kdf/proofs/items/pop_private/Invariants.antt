use Rattle.std.proofs.Common.{◌≡◌, ◌<◌, ◌++◌, length, map, reverse}
use Rattle.ciborium_value.specs.Tree.{bytes}
use Rattle.ciborium_value.specs.View.{view}
use Rattle.coset_kdf.proofs.items.pop_private.Given as goal

abbrev pub invariant-loop-items : goal.invariant-loop-items
invariant-loop-items l = record {
  few : length l.items.items < 4 → length l.fn.items.items < 4;
  are : map view l.fn.items.items ≡ map view l.items.items ++ map bytes (map (λ v. v.items) (reverse l.private.items));
}

abbrev pub decreases-loop-items : goal.decreases-loop-items
decreases-loop-items l = goal.left-loop-items l
