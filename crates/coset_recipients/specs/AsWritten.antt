-- Whether a value that is read as a recipient is already the one that would be written, decided
-- from the value alone: its unprotected header is, and so are the recipients in it, in a list that
-- is not empty. Of other values these tests say nothing.
use Rattle.std.specs.Prelude.{Bool, true, false, ◌&&◌}
use Rattle.ciborium_value.specs.Tree.{Tree, array, Trees, no_trees, one_more}
use Rattle.coset_headers.specs.AsWritten.{are_canonical_elements}

abbrev pub is_filled : Trees → Bool
is_filled no_trees = false
is_filled (one_more t ts) = true

abbrev mutual
  pub is_canonical_recipient : Tree → Bool
  is_canonical_recipient (array ts) = are_canonical_elements ts && is_canonical_fourth ts
  is_canonical_recipient _ = false

  -- the fourth element, if there is one
  pub is_canonical_fourth : Trees → Bool
  is_canonical_fourth (one_more x (one_more y (one_more z (one_more t ts)))) = is_canonical_list t
  is_canonical_fourth _ = true

  pub is_canonical_list : Tree → Bool
  is_canonical_list (array ts) = is_filled ts && are_canonical_recipients ts
  is_canonical_list _ = false

  pub are_canonical_recipients : Trees → Bool
  are_canonical_recipients no_trees = true
  are_canonical_recipients (one_more t ts) = is_canonical_recipient t && are_canonical_recipients ts
