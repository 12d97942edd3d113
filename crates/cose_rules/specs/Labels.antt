-- Which labels a header has (RFC 9052, sections 1.5, 3 and 3.1).
use Rattle.std.specs.Prelude.{ℤ, pos, List, [], ◌∷◌, Bool, true, false, ◌&&◌, ◌||◌, Option, is_some, if◌then◌else◌}
use Rattle.std.specs.List.{list_any}
use Rattle.std.specs.Ordering.{int_eq}
use Rattle.std.specs.Str.{bytes_eq}
use Rattle.ciborium_value.specs.Tree.{Tree}
use Rattle.coset_labels.specs.Entries.{at}
use Rattle.coset_labels.specs.Fields.{LabelFields, number, words, Named, private_use, assigned, named}
use Rattle.coset_headers.specs.Fields.{HeaderFields, header, ProtectedFields, protected, Signatures, no_signatures, signature_more, plain_part}

-- two labels are one
abbrev pub same_label : LabelFields → LabelFields → Bool
same_label (number i) (number j) = int_eq i j
same_label (number i) (words c) = false
same_label (words b) (number j) = false
same_label (words b) (words c) = bytes_eq b c

-- the value at the first entry with a label, or with the number i as label
abbrev pub value_under : LabelFields → List (LabelFields × Tree) → Option Tree
value_under l = at (λ k. same_label k l)

abbrev pub value_at : ℤ → List (LabelFields × Tree) → Option Tree
value_at i = value_under (number i)

-- a name as a label
abbrev pub label_of : Named → LabelFields
label_of (private_use i) = number i
label_of (assigned i) = number i
label_of (named b) = words b

-- a field is there if it is not empty: no reader takes an empty one
abbrev pub is_there : {A : Type 0} → List A → Bool
is_there [] = false
is_there (x ∷ xs) = true

abbrev pub are_signed : Signatures → Bool
are_signed no_signatures = false
are_signed (signature_more s ss) = true

abbrev pub signatures_in : HeaderFields → Signatures
signatures_in (header p ss) = ss

abbrev pub header_in : ProtectedFields → HeaderFields
header_in (protected o h) = h

-- the labels with a field of their own: 1 to 7 (section 3.1)
abbrev pub has_alg : HeaderFields → Bool
has_alg h = is_some (plain_part h).alg

abbrev pub has_crit : HeaderFields → Bool
has_crit h = is_there (plain_part h).crit

abbrev pub has_content_type : HeaderFields → Bool
has_content_type h = is_some (plain_part h).content_type

abbrev pub has_key_id : HeaderFields → Bool
has_key_id h = is_there (plain_part h).key_id

abbrev pub has_iv : HeaderFields → Bool
has_iv h = is_there (plain_part h).iv

abbrev pub has_partial_iv : HeaderFields → Bool
has_partial_iv h = is_there (plain_part h).partial_iv

abbrev pub is_countersigned : HeaderFields → Bool
is_countersigned h = are_signed (signatures_in h)

abbrev pub has_own : HeaderFields → ℤ → Bool
has_own h i =
    if int_eq i (pos 1) then has_alg h
    else if int_eq i (pos 2) then has_crit h
    else if int_eq i (pos 3) then has_content_type h
    else if int_eq i (pos 4) then has_key_id h
    else if int_eq i (pos 5) then has_iv h
    else if int_eq i (pos 6) then has_partial_iv h
    else if int_eq i (pos 7) then is_countersigned h
    else false

-- the other labels
abbrev pub has_other : HeaderFields → LabelFields → Bool
has_other h l = list_any (λ e. same_label e.0 l) (plain_part h).rest

abbrev pub has_number : HeaderFields → ℤ → Bool
has_number h i = has_own h i || has_other h (number i)

-- a header has this label
abbrev pub has_label : HeaderFields → LabelFields → Bool
has_label h (number i) = has_number h i
has_label h (words b) = has_other h (words b)

-- both headers have it
abbrev pub both_have : HeaderFields → HeaderFields → ℤ → Bool
both_have p u i = has_number p i && has_number u i

-- a label is in both headers: one of 1 to 7, or another one of the first
abbrev pub share_own : HeaderFields → HeaderFields → Bool
share_own p u = both_have p u (pos 1) || (both_have p u (pos 2) || (both_have p u (pos 3)
    || (both_have p u (pos 4) || (both_have p u (pos 5) || (both_have p u (pos 6)
    || both_have p u (pos 7))))))

abbrev pub share_other : HeaderFields → HeaderFields → Bool
share_other p u = list_any (λ e. has_label u e.0) (plain_part p).rest

abbrev pub share_label : HeaderFields → HeaderFields → Bool
share_label p u = share_own p u || share_other p u
