-- A data item as a tree, and how deep it nests (RFC 8949, section 3). Widths of heads, cuts of
-- strings and open lengths are forgotten.
use Rattle.std.specs.Prelude.{ℕ, ℤ, suc, ◌+◌, max, List, Bool, true, false, ◌&&◌, ◌||◌, if◌then◌else◌, nat_eq}
use Rattle.ciborium_ll.specs.declared.hdr.Float.{Float as FloatBits}

-- Bytes and texts are the joined bodies. A float is its width and its bits; false, true and null
-- are the simple values 20, 21 and 22.
mutual
  pub data Tree : Type 0 where
    integer : ℤ → Tree
    bytes text : List ℕ → Tree
    array : Trees → Tree
    map : Pairs → Tree
    tag : ℕ → Tree → Tree
    simple : ℕ → Tree
    float : FloatBits → Tree

  -- the items of an array, in order
  pub data Trees : Type 0 where
    no_trees : Trees
    one_more : Tree → Trees → Trees

  -- the entries of a map, in order; a key may come again
  pub data Pairs : Type 0 where
    no_pairs : Pairs
    pair_more : Tree → Tree → Pairs → Pairs

abbrev pub tree_count : Trees → ℕ
tree_count no_trees = 0
tree_count (one_more t ts) = 1 + tree_count ts

abbrev pub pair_count : Pairs → ℕ
pair_count no_pairs = 0
pair_count (pair_more k v ps) = 1 + pair_count ps

-- keys and values in order
abbrev pub flat : Pairs → Trees
flat no_pairs = no_trees
flat (pair_more k v ps) = one_more k (one_more v (flat ps))

abbrev pub is_bytes : Tree → Bool
is_bytes (bytes b) = true
is_bytes _ = false

-- a bignum: a tag 2 or 3 directly over a byte string (section 3.4.3) opens no level
abbrev pub opens_none : ℕ → Tree → Bool
opens_none n t = (nat_eq n 2 || nat_eq n 3) && is_bytes t

-- how many levels of arrays, maps and tags nest; an empty array or map is one
abbrev mutual
  pub depth : Tree → ℕ
  depth (integer i) = 0
  depth (bytes b) = 0
  depth (text b) = 0
  depth (array ts) = suc (depth_all ts)
  depth (map ps) = suc (depth_pairs ps)
  depth (tag n t) = if opens_none n t then 0 else suc (depth t)
  depth (simple n) = 0
  depth (float f) = 0

  pub depth_all : Trees → ℕ
  depth_all no_trees = 0
  depth_all (one_more t ts) = max (depth t) (depth_all ts)

  pub depth_pairs : Pairs → ℕ
  depth_pairs no_pairs = 0
  depth_pairs (pair_more k v ps) = max (depth k) (max (depth v) (depth_pairs ps))
