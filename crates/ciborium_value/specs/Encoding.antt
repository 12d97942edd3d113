-- The canonical encoding of a tree (RFC 8949, section 4.1): shortest heads, definite lengths,
-- entries in their order, floats in their width.
use Rattle.std.specs.Prelude.{ℕ, ℤ, pos, negsuc, ◌^◌, ◌<◌, List, [], ◌++◌, length, All, Some}
use Rattle.std.specs.Str.{IsUtf8}
use Rattle.ciborium_ll.specs.declared.hdr.Header.{Header}
use Rattle.ciborium_ll.specs.declared.hdr.Header.TheVariants.{Positive, Negative, Simple, Tag, Bytes, Text, Array, Map}
use Rattle.ciborium_ll.specs.declared.hdr.Header.TheVariants as head
use Rattle.ciborium_ll.specs.Title.{title_of, FitsHeader}
use Rattle.ciborium_value.specs.Tree.{Tree, integer, bytes, text, array, map, tag, simple, float, Trees, no_trees, one_more, Pairs, no_pairs, pair_more, tree_count, pair_count}

-- the head of an integer: n is major type 0, and -1 - n is major type 1
abbrev pub int_head : ℤ → Header
int_head (pos n) = Positive n
int_head (negsuc n) = Negative n

abbrev mutual
  pub enc : Tree → List ℕ
  enc (integer i) = title_of (int_head i)
  enc (bytes b) = title_of (Bytes (Some (length b))) ++ b
  enc (text b) = title_of (Text (Some (length b))) ++ b
  enc (array ts) = title_of (Array (Some (tree_count ts))) ++ enc_all ts
  enc (map ps) = title_of (Map (Some (pair_count ps))) ++ enc_pairs ps
  enc (tag n t) = title_of (Tag n) ++ enc t
  enc (simple n) = title_of (Simple n)
  enc (float f) = title_of (head.Float f)

  pub enc_all : Trees → List ℕ
  enc_all no_trees = []
  enc_all (one_more t ts) = enc t ++ enc_all ts

  pub enc_pairs : Pairs → List ℕ
  enc_pairs no_pairs = []
  enc_pairs (pair_more k v ps) = enc k ++ (enc v ++ enc_pairs ps)

-- each number lies in its range, a byte string is bytes, each text is UTF-8, and each length is one
-- that a head can have
abbrev mutual
  pub Fits : Tree → Type 0
  Fits (integer i) = FitsHeader (int_head i)
  Fits (bytes b) = (length b < 2 ^ 64) × All (λ x. x < 256) b
  Fits (text b) = (length b < 2 ^ 64) × IsUtf8 b
  Fits (array ts) = (tree_count ts < 2 ^ 64) × FitAll ts
  Fits (map ps) = (pair_count ps < 2 ^ 64) × FitPairs ps
  Fits (tag n t) = (n < 2 ^ 64) × Fits t
  Fits (simple n) = n < 2 ^ 8
  Fits (float f) = FitsHeader (head.Float f)

  pub FitAll : Trees → Type 0
  FitAll no_trees = Unit {0}
  FitAll (one_more t ts) = Fits t × FitAll ts

  pub FitPairs : Pairs → Type 0
  FitPairs no_pairs = Unit {0}
  FitPairs (pair_more k v ps) = Fits k × Fits v × FitPairs ps
