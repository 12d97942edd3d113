-- What a header or a signature is written as straight from its fields, and the events of its parts.
-- A protected header is its received bytes; one without any is the empty byte string, which stands
-- for an empty header alone. Only what is as received (`Received`) is written so.
use Rattle.std.specs.Prelude.{ℕ, pos, List, [], ◌∷◌, ◌++◌, length, map as map_list, Some, None}
use Rattle.ciborium_value.specs.Tree.{Tree, bytes, array, Trees, no_trees, one_more, tree_count}
use Rattle.ciborium_value.specs.View.{pairs}
use Rattle.ciborium_traits.specs.Events as event
use Rattle.ciborium_traits.specs.Events.{Event, events_pairs}
use Rattle.coset_labels.specs.Fields.{LabelFields}
use Rattle.coset_headers.specs.Fields.{Plain, HeaderFields, header, ProtectedFields, protected, SignatureFields, signature, Signatures, no_signatures, signature_more}
use Rattle.coset_headers.specs.Headers.{list_of_three}
use Rattle.coset_headers.specs.Written.{name_entry, crit_entry, bytes_entry, written_entries, entry_tree, tree_of, bare_or_list}

abbrev pub protected_put : ProtectedFields → Tree
protected_put (protected (Some b) h) = bytes b
protected_put (protected None h) = bytes []

abbrev mutual
  pub header_put : HeaderFields → Tree
  header_put (header p ss) = tree_of (written_entries p (bare_or_list (signatures_put ss)))

  pub signature_put : SignatureFields → Tree
  signature_put (signature p h c) = array (list_of_three (protected_put p) (header_put h) (bytes c))

  pub signatures_put : Signatures → Trees
  signatures_put no_signatures = no_trees
  signatures_put (signature_more s ss) = one_more (signature_put s) (signatures_put ss)

-- the events of entries
abbrev pub entry_events : List (LabelFields × Tree) → List Event
entry_events es = events_pairs (pairs (map_list entry_tree es))

-- how many entries the header has
abbrev pub entry_count : HeaderFields → ℕ
entry_count (header p ss) = length (written_entries p (bare_or_list (signatures_put ss)))

-- the events of the label of counter signatures, and of the beginning of their list if there are
-- several
abbrev pub signs_begun : Trees → List Event
signs_begun no_trees = []
signs_begun (one_more t no_trees) = event.integer (pos 7) ∷ []
signs_begun (one_more t (one_more u us)) = event.integer (pos 7) ∷ (event.array (tree_count (one_more t (one_more u us))) ∷ [])

-- the events of the names in a header, and of its byte strings
abbrev pub name_events : Plain → List Event
name_events p = entry_events (name_entry 1 p.alg) ++ (entry_events (crit_entry p.crit) ++ entry_events (name_entry 3 p.content_type))

abbrev pub string_events : Plain → List Event
string_events p = entry_events (bytes_entry 4 p.key_id) ++ (entry_events (bytes_entry 5 p.iv) ++ entry_events (bytes_entry 6 p.partial_iv))

-- the events of a header up to its counter signatures
abbrev pub header_begun : HeaderFields → List Event
header_begun (header p ss) =
    event.map (length (written_entries p (bare_or_list (signatures_put ss)))) ∷ (name_events p ++ (string_events p ++ signs_begun (signatures_put ss)))
