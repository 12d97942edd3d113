-- The order of trees by kind, then by content. The kinds come as a value's variants are listed:
-- integers, bytes, floats, texts, simple values (false, true, null), tags, arrays, maps.
use Rattle.std.specs.Prelude.{ℕ}
use Rattle.std.specs.Cmp.Lexicographic.{slice_cmp}
use Rattle.std.specs.declared.cmp.Ordering.{Ordering}
use Rattle.std.specs.declared.cmp.Ordering.TheVariants.{Less, Equal, Greater}
use Rattle.std.specs.Ordering.{ordering_then, nat_cmp, int_cmp}
use Rattle.ciborium_ll.specs.declared.hdr.Float.{Float as FloatBits}
use Rattle.ciborium_ll.specs.declared.hdr.Float.TheVariants.{Half, Single, Double}
use Rattle.ciborium_value.specs.Tree.{Tree, integer, bytes, text, array, map, tag, simple, float, Trees, no_trees, one_more, Pairs, no_pairs, pair_more}

abbrev pub kind : Tree → ℕ
kind (integer i) = 0
kind (bytes b) = 1
kind (float f) = 2
kind (text b) = 3
kind (simple n) = 4
kind (tag n t) = 5
kind (array ts) = 6
kind (map ps) = 7

-- floats go by width, the narrowest first, and then by their bits
abbrev pub width : FloatBits → ℕ
width (Half n) = 0
width (Single n) = 1
width (Double n) = 2

abbrev pub pattern : FloatBits → ℕ
pattern (Half n) = n
pattern (Single n) = n
pattern (Double n) = n

abbrev mutual
  pub tree_cmp : Tree → Tree → Ordering
  tree_cmp (integer i) (integer j) = int_cmp i j
  tree_cmp (bytes a) (bytes b) = slice_cmp nat_cmp a b
  tree_cmp (float f) (float g) = ordering_then (nat_cmp (width f) (width g)) (nat_cmp (pattern f) (pattern g))
  tree_cmp (text a) (text b) = slice_cmp nat_cmp a b
  tree_cmp (simple n) (simple m) = nat_cmp n m
  tree_cmp (tag n t) (tag m s) = ordering_then (nat_cmp n m) (tree_cmp t s)
  tree_cmp (array ts) (array ss) = trees_cmp ts ss
  tree_cmp (map ps) (map qs) = pairs_cmp ps qs
  tree_cmp t s = nat_cmp (kind t) (kind s)

  -- item by item; a beginning comes before the whole
  pub trees_cmp : Trees → Trees → Ordering
  trees_cmp no_trees no_trees = Equal
  trees_cmp no_trees (one_more s ss) = Less
  trees_cmp (one_more t ts) no_trees = Greater
  trees_cmp (one_more t ts) (one_more s ss) = ordering_then (tree_cmp t s) (trees_cmp ts ss)

  -- entry by entry, of each its key first
  pub pairs_cmp : Pairs → Pairs → Ordering
  pairs_cmp no_pairs no_pairs = Equal
  pairs_cmp no_pairs (pair_more l w qs) = Less
  pairs_cmp (pair_more k v ps) no_pairs = Greater
  pairs_cmp (pair_more k v ps) (pair_more l w qs) = ordering_then (ordering_then (tree_cmp k l) (tree_cmp v w)) (pairs_cmp ps qs)
