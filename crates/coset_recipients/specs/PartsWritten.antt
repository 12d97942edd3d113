-- The values that the parts are written as (RFC 9052, sections 4.2, 5.1 and 6.1); none if a header
-- can't be written.
use Rattle.std.specs.Prelude.{ℕ, List, [], ◌∷◌, ◌++◌, Option, Some, None, option_map, option_and_then}
use Rattle.ciborium_value.specs.Tree.{Tree, bytes, array, simple}
use Rattle.ciborium_value.specs.View.{trees}
use Rattle.coset_labels.specs.Arrays.{all_written}
use Rattle.coset_headers.specs.Written.{header_tree, shown}
use Rattle.coset_recipients.specs.PartsFields.{PartsFields}

-- bytes, or null for what is not there
abbrev pub optional_tree : Option (List ℕ) → Tree
optional_tree None = simple 22
optional_tree (Some b) = bytes b

abbrev pub parts_trees : PartsFields → Option (List Tree)
parts_trees f = option_and_then (λ b. option_map (λ t. bytes b ∷ t ∷ optional_tree f.content ∷ []) (header_tree f.unprotected)) (shown f.protected)

-- a message: the array of the parts and of the last items; none if one of them can't be written
abbrev pub whole_tree : PartsFields → List (Option Tree) → Option Tree
whole_tree f lasts = option_and_then (λ parts. option_map (λ ls. array (trees (parts ++ ls))) (all_written (λ o. o) lasts)) (parts_trees f)

-- what is covered counts as empty if nothing is carried
abbrev pub content_bytes : Option (List ℕ) → List ℕ
content_bytes None = []
content_bytes (Some b) = b
