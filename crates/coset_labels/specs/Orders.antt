-- The orders of labels and names: those of their encodings (RFC 8949, section 4.2). Of two names
-- with one encoding that of the registry is before that for private use.
use Rattle.std.specs.Prelude.{Bool, true, false}
use Rattle.std.specs.Ordering.{ordering_then, bool_cmp}
use Rattle.std.specs.declared.cmp.Ordering.{Ordering}
use Rattle.ciborium_value.specs.Canonical.{text_cmp, length_first}
use Rattle.coset_labels.specs.Fields.{LabelFields, Named, private_use, assigned, named}
use Rattle.coset_labels.specs.Labels.{label_tree, named_tree}

abbrev pub label_cmp : LabelFields → LabelFields → Ordering
label_cmp l m = text_cmp (label_tree l) (label_tree m)

-- the shorter encoding first (RFC 8949, section 4.2.3)
abbrev pub label_length_first : LabelFields → LabelFields → Ordering
label_length_first l m = length_first (label_tree l) (label_tree m)

abbrev pub is_own_number : Named → Bool
is_own_number (private_use i) = true
is_own_number (assigned i) = false
is_own_number (named b) = false

abbrev pub named_cmp : Named → Named → Ordering
named_cmp n m = ordering_then (text_cmp (named_tree n) (named_tree m)) (bool_cmp (is_own_number n) (is_own_number m))
