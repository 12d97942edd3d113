-- Whether a value that is read as a COSE_Sign is already the one that would be written, decided
-- from the value alone: its unprotected header is, and so are its signatures. Of other values these
-- tests say nothing.
use Rattle.std.specs.Prelude.{Bool, false, ◌&&◌}
use Rattle.ciborium_value.specs.Tree.{Tree, array, Trees, one_more}
use Rattle.coset_headers.specs.AsWritten.{are_canonical_elements, are_canonical_signatures}

abbrev pub is_canonical_list : Tree → Bool
is_canonical_list (array ts) = are_canonical_signatures ts
is_canonical_list _ = false

-- the fourth element
abbrev pub is_canonical_last : Trees → Bool
is_canonical_last (one_more x (one_more y (one_more z (one_more t ts)))) = is_canonical_list t
is_canonical_last _ = false

abbrev pub is_canonical_sign : Tree → Bool
is_canonical_sign (array ts) = are_canonical_elements ts && is_canonical_last ts
is_canonical_sign _ = false
