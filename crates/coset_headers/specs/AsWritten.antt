-- Whether a value that is read as a header or a signature is already the one that would be written,
-- decided from the value alone: the entries that have fields of their own are first, in the order
-- of their labels, and counter signatures are bare, or two and more. Of other values these tests
-- say nothing.
use Rattle.std.specs.Prelude.{ℕ, pos, Bool, true, false, ◌&&◌, if◌then◌else◌, nat_eq, nat_lt}
use Rattle.ciborium_value.specs.Tree.{Tree, integer, array, map as map_tree, Trees, no_trees, one_more, Pairs, no_pairs, pair_more, is_bytes}

-- the place of an entry by its key: 1 to 7 if the label has a field of its own, and 8 for all
-- others
abbrev pub place_of : Tree → ℕ
place_of (integer (pos n)) = if nat_lt 0 n && nat_lt n 8 then n else 8
place_of _ = 8

abbrev pub is_bare : Trees → Bool
is_bare no_trees = false
is_bare (one_more t ts) = is_bytes t

abbrev pub is_several : Trees → Bool
is_several (one_more t (one_more u us)) = true
is_several _ = false

abbrev mutual
  pub is_canonical_header : Tree → Bool
  is_canonical_header (map_tree ps) = are_canonical_entries 1 ps
  is_canonical_header _ = false

  -- the entries after one at the place `last`
  pub are_canonical_entries : ℕ → Pairs → Bool
  are_canonical_entries last no_pairs = true
  are_canonical_entries last (pair_more l v ps) = if nat_lt (place_of l) last then false
      else ((if nat_eq (place_of l) 7 then are_canonical_counter_signatures v else true) && are_canonical_entries (place_of l) ps)

  -- the value of counter signatures: one by itself, or a list
  pub are_canonical_counter_signatures : Tree → Bool
  are_canonical_counter_signatures (array ts) = if is_bare ts then are_canonical_elements ts else (is_several ts && are_canonical_signatures ts)
  are_canonical_counter_signatures _ = false

  pub are_canonical_signatures : Trees → Bool
  are_canonical_signatures no_trees = true
  are_canonical_signatures (one_more t ts) = is_canonical_signature t && are_canonical_signatures ts

  pub is_canonical_signature : Tree → Bool
  is_canonical_signature (array ts) = are_canonical_elements ts
  is_canonical_signature _ = false

  -- the elements of a signature: the second is its unprotected header
  pub are_canonical_elements : Trees → Bool
  are_canonical_elements (one_more a (one_more b ts)) = is_canonical_header b
  are_canonical_elements _ = false
