-- A number that falls from a value to its parts, and from a byte string to the item that it spells.
use Rattle.std.specs.Prelude.{ℕ, ◌+◌, length}
use Rattle.ciborium_value.specs.Tree.{Tree, bytes, text, array, map, tag, Trees, no_trees, one_more, Pairs, no_pairs, pair_more}

abbrev mutual
  pub weight : Tree → ℕ
  weight (bytes b) = 1 + length b
  weight (text b) = 1 + length b
  weight (array ts) = 1 + weight_all ts
  weight (map ps) = 1 + weight_pairs ps
  weight (tag n t) = 1 + weight t
  weight t = 1

  pub weight_all : Trees → ℕ
  weight_all no_trees = 0
  weight_all (one_more t ts) = weight t + weight_all ts

  pub weight_pairs : Pairs → ℕ
  weight_pairs no_pairs = 0
  weight_pairs (pair_more k v ps) = weight k + (weight v + weight_pairs ps)
