-- The order of encodings by heads and contents, as the code finds it, without the encodings. Trees
-- whose numbers heads can say have the order of their encodings.
use Rattle.std.specs.Prelude.{ℕ, ℤ, pos, negsuc, ◌+◌, ◌^◌, ◌<◌, length}
use Rattle.std.specs.Cmp.Lexicographic.{slice_cmp}
use Rattle.std.specs.declared.cmp.Ordering.{Ordering}
use Rattle.std.specs.declared.cmp.Ordering.TheVariants.{Equal}
use Rattle.std.specs.Ordering.{ordering_then, nat_cmp}
use Rattle.ciborium_ll.specs.declared.hdr.Header.TheVariants as head
use Rattle.ciborium_ll.specs.Title.{FitsHeader}
use Rattle.ciborium_value.specs.Tree.{Tree, integer, bytes, text, array, map, tag, simple, float, Trees, no_trees, one_more, Pairs, no_pairs, pair_more, tree_count, pair_count}
use Rattle.ciborium_value.specs.Encoding.{int_head}
use Rattle.ciborium_value.specs.Order.{width, pattern}

-- the place of a tree's head among heads: its major type, and floats after simple values, by width
abbrev pub int_place : ℤ → ℕ
int_place (pos n) = 0
int_place (negsuc n) = 1

abbrev pub place : Tree → ℕ
place (integer i) = int_place i
place (bytes b) = 2
place (text b) = 3
place (array ts) = 4
place (map ps) = 5
place (tag n t) = 6
place (simple n) = 7
place (float f) = 8 + width f

-- the number in a tree's head
abbrev pub int_number : ℤ → ℕ
int_number (pos n) = n
int_number (negsuc n) = n

abbrev pub number : Tree → ℕ
number (integer i) = int_number i
number (bytes b) = length b
number (text b) = length b
number (array ts) = tree_count ts
number (map ps) = pair_count ps
number (tag n t) = n
number (simple n) = n
number (float f) = pattern f

abbrev pub head_cmp : Tree → Tree → Ordering
head_cmp t s = ordering_then (nat_cmp (place t) (place s)) (nat_cmp (number t) (number s))

-- by heads, then by what is after them
abbrev mutual
  pub heads_cmp : Tree → Tree → Ordering
  heads_cmp (bytes a) (bytes b) = ordering_then (head_cmp (bytes a) (bytes b)) (slice_cmp nat_cmp a b)
  heads_cmp (text a) (text b) = ordering_then (head_cmp (text a) (text b)) (slice_cmp nat_cmp a b)
  heads_cmp (array ts) (array ss) = ordering_then (head_cmp (array ts) (array ss)) (all_cmp ts ss)
  heads_cmp (map ps) (map qs) = ordering_then (head_cmp (map ps) (map qs)) (each_cmp ps qs)
  heads_cmp (tag n t) (tag m s) = ordering_then (head_cmp (tag n t) (tag m s)) (heads_cmp t s)
  heads_cmp t s = head_cmp t s

  -- item by item, of lists with one length
  pub all_cmp : Trees → Trees → Ordering
  all_cmp (one_more t ts) (one_more s ss) = ordering_then (heads_cmp t s) (all_cmp ts ss)
  all_cmp ts ss = Equal

  -- entry by entry, of each its key first
  pub each_cmp : Pairs → Pairs → Ordering
  each_cmp (pair_more k v ps) (pair_more l w qs) = ordering_then (ordering_then (heads_cmp k l) (heads_cmp v w)) (each_cmp ps qs)
  each_cmp ps qs = Equal

-- each number in a head lies in its range
abbrev mutual
  pub Sized : Tree → Type 0
  Sized (integer i) = FitsHeader (int_head i)
  Sized (bytes b) = length b < 2 ^ 64
  Sized (text b) = length b < 2 ^ 64
  Sized (array ts) = (tree_count ts < 2 ^ 64) × SizedAll ts
  Sized (map ps) = (pair_count ps < 2 ^ 64) × SizedPairs ps
  Sized (tag n t) = (n < 2 ^ 64) × Sized t
  Sized (simple n) = n < 2 ^ 8
  Sized (float f) = FitsHeader (head.Float f)

  pub SizedAll : Trees → Type 0
  SizedAll no_trees = Unit {0}
  SizedAll (one_more t ts) = Sized t × SizedAll ts

  pub SizedPairs : Pairs → Type 0
  SizedPairs no_pairs = Unit {0}
  SizedPairs (pair_more k v ps) = Sized k × Sized v × SizedPairs ps
