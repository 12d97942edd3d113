-- The fields of a header as a list of values, by which laws go over them.
use Rattle.std.specs.Prelude.{ℕ, suc, List, [], ◌∷◌, ◌++◌, Bool, true, ◌&&◌, not, Option, is_some, option_map}
use Rattle.ciborium_value.specs.Tree.{Tree}
use Rattle.coset_labels.specs.Fields.{LabelFields}
use Rattle.coset_labels.specs.Labels.{named_tree}
use Rattle.coset_headers.specs.Fields.{Plain}
use Rattle.coset_headers.specs.Written.{entry_of, crit_value, bytes_value}

-- the values at the labels 1 to 6
abbrev pub values_of : Plain → List (Option Tree)
values_of p = option_map named_tree p.alg ∷ crit_value p.crit ∷ option_map named_tree p.content_type ∷ bytes_value p.key_id
    ∷ bytes_value p.iv ∷ bytes_value p.partial_iv ∷ []

-- the entries of values whose labels count up from n, and then the entries es
abbrev pub entries_from : ℕ → List (Option Tree) → List (LabelFields × Tree) → List (LabelFields × Tree)
entries_from n [] es = es
entries_from n (o ∷ os) es = entry_of n o ++ entries_from (suc n) os es

abbrev pub all_absent : List (Option Tree) → Bool
all_absent [] = true
all_absent (o ∷ os) = not (is_some o) && all_absent os
