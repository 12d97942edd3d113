-- How many items are written.
use Rattle.std.proofs.Common.{◌≡◌, List, [], ◌∷◌, length, map, refl, arith}
use Rattle.ciborium_value.specs.Tree.{Tree, tree_count, pair_count}
use Rattle.ciborium_value.specs.View.{trees, pairs}

pub trees_counted : {T : Type 0} (put : T → Tree) (xs : List T) → tree_count (trees (map put xs)) ≡ length xs
trees_counted put [] = refl
trees_counted put (x ∷ xs) = let h : tree_count (trees (map put xs)) ≡ length xs = trees_counted put xs in omega arith

pub pairs_counted : {E : Type 0} (put : E → Tree × Tree) (xs : List E) → pair_count (pairs (map put xs)) ≡ length xs
pairs_counted put [] = refl
pairs_counted put (x ∷ xs) = let h : pair_count (pairs (map put xs)) ≡ length xs = pairs_counted put xs in omega arith
