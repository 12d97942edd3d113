-- The value that stands for the fields of a key or a set of keys (RFC 9052, section 7). There is
-- none if a label is repeated in the `params` of a key.
use Rattle.std.specs.Prelude.{pos, List, [], ◌∷◌, ◌++◌, map, if◌then◌else◌, Option, Some, None}
use Rattle.ciborium_value.specs.Tree.{Tree, array}
use Rattle.ciborium_value.specs.View.{trees}
use Rattle.coset_labels.specs.Arrays.{array_of}
use Rattle.coset_labels.specs.Fields.{LabelFields, number, Named}
use Rattle.coset_labels.specs.Labels.{named_tree}
use Rattle.coset_headers.specs.Written.{name_entry, bytes_entry, tree_of, twice}
use Rattle.coset_keys.specs.Fields.{KeyFields}

abbrev pub ops_entry : List Named → List (LabelFields × Tree)
ops_entry [] = []
ops_entry (n ∷ ns) = (number (pos 4), array (trees (map named_tree (n ∷ ns)))) ∷ []

-- the entries in their fixed order, those of empty fields left away; the type is always there
abbrev pub key_entries : KeyFields → List (LabelFields × Tree)
key_entries k = name_entry 1 (Some k.kty) ++ (bytes_entry 2 k.key_id ++ (name_entry 3 k.alg
    ++ (ops_entry k.key_ops ++ (bytes_entry 5 k.base_iv ++ k.params))))

abbrev pub key_tree : KeyFields → Option Tree
key_tree k = if twice k.params then None else Some (tree_of (key_entries k))

abbrev pub key_set_tree : List KeyFields → Option Tree
key_set_tree = array_of key_tree
