-- Whether a value that is read as a COSE_Mac is already the one that would be written, decided from
-- the value alone: its unprotected header is, and so are its recipients. Of other values these
-- tests say nothing.
use Rattle.std.specs.Prelude.{Bool, false, ◌&&◌}
use Rattle.ciborium_value.specs.Tree.{Tree, array, Trees, one_more}
use Rattle.coset_headers.specs.AsWritten.{are_canonical_elements}
use Rattle.coset_recipients.specs.AsWritten.{are_canonical_recipients}

-- a list, which may be empty
abbrev pub is_canonical_list : Tree → Bool
is_canonical_list (array ts) = are_canonical_recipients ts
is_canonical_list _ = false

-- the fifth element
abbrev pub is_canonical_last : Trees → Bool
is_canonical_last (one_more x (one_more y (one_more z (one_more d (one_more t ts))))) = is_canonical_list t
is_canonical_last _ = false

abbrev pub is_canonical_mac : Tree → Bool
is_canonical_mac (array ts) = are_canonical_elements ts && is_canonical_last ts
is_canonical_mac _ = false
