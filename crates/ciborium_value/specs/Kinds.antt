-- Which kind of item a tree is (RFC 8949, section 3.1; false, true and null are the simple values
-- 20 to 22, section 3.3). `is_bytes` is beside the tree.
use Rattle.std.specs.Prelude.{Bool, true, false, ◌||◌, nat_eq}
use Rattle.ciborium_value.specs.Tree.{Tree, integer, text, array, map, tag, simple, float}

abbrev pub is_integer : Tree → Bool
is_integer (integer i) = true
is_integer _ = false

abbrev pub is_float : Tree → Bool
is_float (float f) = true
is_float _ = false

abbrev pub is_text : Tree → Bool
is_text (text b) = true
is_text _ = false

abbrev pub is_bool : Tree → Bool
is_bool (simple n) = nat_eq n 20 || nat_eq n 21
is_bool _ = false

abbrev pub is_null : Tree → Bool
is_null (simple n) = nat_eq n 22
is_null _ = false

abbrev pub is_tag : Tree → Bool
is_tag (tag n t) = true
is_tag _ = false

abbrev pub is_array : Tree → Bool
is_array (array ts) = true
is_array _ = false

abbrev pub is_map : Tree → Bool
is_map (map ps) = true
is_map _ = false
