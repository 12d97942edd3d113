-- Which fault a value has as a key and as a set of keys (RFC 9052, section 7). A value may have
-- several.
use Rattle.std.specs.Prelude.{◌≡◌, pos, List, ◌∷◌, ◌++◌, false, Some}
use Rattle.std.specs.List.{Contains}
use Rattle.cose_iana.specs.Algorithms.{is_algorithm}
use Rattle.cose_iana.specs.Keys.{key_types, key_operations}
use Rattle.cose_iana.specs.Registry.{is_private_use}
use Rattle.ciborium_value.specs.Tree.{Tree, array, map as map_tree, Trees, no_trees, Pairs}
use Rattle.ciborium_value.specs.View.{trees}
use Rattle.coset_labels.specs.Entries.{IsIn, IsField}
use Rattle.coset_labels.specs.Fields.{LabelFields, number, Named}
use Rattle.coset_labels.specs.Faults.{CoseFault, duplicate_key, unexpected}
use Rattle.ciborium_value.specs.Kinds.{is_map, is_array}
use Rattle.coset_labels.specs.Kinds.{WrongBytes}
use Rattle.coset_labels.specs.Labels.{label_of, WrongLabel, WrongRegistered, WrongNamed}
use Rattle.coset_labels.specs.Walks as walks
use Rattle.coset_headers.specs.Headers.{entries, at}
use Rattle.coset_keys.specs.Fields.{reserved}
use Rattle.coset_keys.specs.Keys.{type_of, operation_of, operations_of}

-- no list, an empty one, an item that is no operation, or an operation again
pub data WrongOperations (t : Tree) (e : CoseFault) : Type 0 where
  no_list : is_array t ≡ false → e ≡ unexpected → WrongOperations t e
  empty_list : t ≡ array no_trees → e ≡ unexpected → WrongOperations t e
  bad_operation : (before after : List Tree) (u : Tree) → t ≡ array (trees (before ++ u ∷ after))
      → WrongRegistered key_operations.is_registered u e → WrongOperations t e
  operation_again : (before after : List Tree) (u : Tree) (ns : List Named) (n : Named) → t ≡ array (trees (before ++ u ∷ after))
      → operations_of (trees before) ≡ Some ns → operation_of u ≡ Some n → Contains ns n → e ≡ unexpected → WrongOperations t e

-- the value of a label from 1 to 5
pub data WrongValue (v : Tree) (l : LabelFields) (e : CoseFault) : Type 0 where
  wrong_kty : l ≡ number (pos 1) → WrongRegistered key_types.is_registered v e → WrongValue v l e
  wrong_key_id : l ≡ number (pos 2) → WrongBytes v e → WrongValue v l e
  wrong_alg : l ≡ number (pos 3) → WrongNamed is_algorithm is_private_use v e → WrongValue v l e
  wrong_key_ops : l ≡ number (pos 4) → WrongOperations v e → WrongValue v l e
  wrong_base_iv : l ≡ number (pos 5) → WrongBytes v e → WrongValue v l e

-- the entry (l, v) after the entries `es`; of a label that comes again no other fault counts
pub data WrongEntry (es : List (LabelFields × Tree)) (l v : Tree) (e : CoseFault) : Type 0 where
  bad_label : WrongLabel l e → WrongEntry es l v e
  label_again : (m : LabelFields) → label_of l ≡ Some m → IsIn m es → e ≡ duplicate_key → WrongEntry es l v e
  bad_value : (m : LabelFields) → label_of l ≡ Some m → (IsIn m es → ⊥) → WrongValue v m e → WrongEntry es l v e

-- one of the entries has a fault, and those before it have labels
abbrev pub WrongEntries : Pairs → CoseFault → Type 0
WrongEntries = walks.WrongEntries label_of WrongEntry

-- no map, an entry with a fault, or a type that is absent or 0
pub data WrongKey (t : Tree) (e : CoseFault) : Type 0 where
  no_map : is_map t ≡ false → e ≡ unexpected → WrongKey t e
  at_entry : (ps : Pairs) → t ≡ map_tree ps → WrongEntries ps e → WrongKey t e
  no_type : (ps : Pairs) (es : List (LabelFields × Tree)) → t ≡ map_tree ps → entries ps ≡ Some es
      → IsField type_of reserved (at 1 es) reserved → e ≡ unexpected → WrongKey t e

-- one of the keys has a fault
abbrev pub WrongKeys : Trees → CoseFault → Type 0
WrongKeys = walks.WrongItems WrongKey

-- no list, or a key with a fault in it
pub data WrongKeySet (t : Tree) (e : CoseFault) : Type 0 where
  no_key_list : is_array t ≡ false → e ≡ unexpected → WrongKeySet t e
  in_key : (ts : Trees) → t ≡ array ts → WrongKeys ts e → WrongKeySet t e
