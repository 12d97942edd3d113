-- The orders of trees by their encodings (RFC 8949, section 4.2).
use Rattle.std.specs.Prelude.{ℕ, min, List, length}
use Rattle.std.specs.Cmp.Lexicographic.{slice_cmp}
use Rattle.std.specs.declared.cmp.Ordering.{Ordering}
use Rattle.std.specs.Ordering.{ordering_then, nat_cmp}
use Rattle.ciborium_value.specs.Tree.{Tree}
use Rattle.ciborium_value.specs.Encoding.{enc}
use Rattle.ciborium_value.specs.Order.{tree_cmp}

-- byte by byte (section 4.2.1)
abbrev pub bytewise : Tree → Tree → Ordering
bytewise t s = slice_cmp nat_cmp (enc t) (enc s)

-- the shorter encoding first, then byte by byte (section 4.2.3)
abbrev pub length_first : Tree → Tree → Ordering
length_first t s = ordering_then (nat_cmp (length (enc t)) (length (enc s))) (bytewise t s)

-- a length, counted to the greatest `u64`
abbrev pub counted : List ℕ → ℕ
counted b = min (length b) 0xffff_ffff_ffff_ffff

-- the shorter encoding first, with lengths counted to the greatest `u64`, then byte by byte
abbrev pub canonical : Tree → Tree → Ordering
canonical t s = ordering_then (nat_cmp (counted (enc t)) (counted (enc s))) (bytewise t s)

-- Orders of all trees. No two trees whose numbers heads can say have one encoding; others that have
-- one go by kind and content.
abbrev pub text_cmp : Tree → Tree → Ordering
text_cmp t s = ordering_then (bytewise t s) (tree_cmp t s)

abbrev pub canonical_cmp : Tree → Tree → Ordering
canonical_cmp t s = ordering_then (canonical t s) (tree_cmp t s)
