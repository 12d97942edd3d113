-- The value that a tree means, as a tree again, or none (RFC 8949, sections 3.3 and 3.4.3).
use Rattle.std.specs.Prelude.{ℕ, ◌≤◌, Option, Some, None, if◌then◌else◌, nat_eq, nat_le, ◌&&◌}
use Rattle.ciborium_value.specs.Tree.{Tree, array, map, tag, simple, Trees, no_trees, one_more, Pairs, no_pairs, pair_more}
use Rattle.ciborium_value.specs.Folding.{fold_by, fold_all_by, fold_pairs_by}

-- false, true and null are themselves, undefined is null, and no other simple value is assigned
abbrev pub simple_meaning : ℕ → Option Tree
simple_meaning n = if nat_eq n 23 then Some (simple 22) else if nat_le 20 n && nat_le n 22 then Some (simple n) else None

-- the tree with its bignums folded; none if a simple value is unassigned or a negative bignum too
-- large, anywhere in it
abbrev pub meaning : Tree → Option Tree
meaning = fold_by simple_meaning

abbrev pub meanings : Trees → Option Trees
meanings = fold_all_by simple_meaning

abbrev pub pair_meanings : Pairs → Option Pairs
pair_meanings = fold_pairs_by simple_meaning

-- each simple value in the tree is false, true or null
abbrev mutual
  pub Assigned : Tree → Type 0
  Assigned (array ts) = AllAssigned ts
  Assigned (map ps) = PairsAssigned ps
  Assigned (tag n t) = Assigned t
  Assigned (simple n) = (20 ≤ n) × (n ≤ 22)
  Assigned t = Unit {0}

  pub AllAssigned : Trees → Type 0
  AllAssigned no_trees = Unit {0}
  AllAssigned (one_more t ts) = Assigned t × AllAssigned ts

  pub PairsAssigned : Pairs → Type 0
  PairsAssigned no_pairs = Unit {0}
  PairsAssigned (pair_more k v ps) = Assigned k × Assigned v × PairsAssigned ps
