-- A set of keys that was read is read of what it is written as.
use Rattle.std.proofs.Common.{◌≡◌, List, [], ◌∷◌, map, Some, option_map, option_and_then, refl, ap, ◌∙◌}
use Rattle.ciborium_value.specs.Tree.{Tree, array, Trees}
use Rattle.ciborium_value.specs.View.{trees}
use Rattle.coset_labels.specs.Arrays.{all_written}
use Rattle.coset_headers.specs.Written.{tree_of}
use Rattle.coset_keys.specs.Fields.{KeyFields}
use Rattle.coset_keys.specs.Keys.{HaveKeys, HasKeySet}
use Rattle.coset_keys.specs.Written.{key_entries, key_tree, key_set_tree}
use Rattle.coset_keys.proofs.Again.{writes, reads_back}
use Rattle.coset_keys.proofs.Good.{is_key}

-- what keys without a label that is twice are written as
abbrev pub all_trees : List KeyFields → List Tree
all_trees = map (λ k. tree_of (key_entries k))

pub keys_write : (ts : Trees) (ks : List KeyFields) → HaveKeys ts ks → all_written key_tree ks ≡ Some (all_trees ks)
keys_write ts [] a = refl
keys_write ts (k ∷ ks) a =
    ap (option_and_then (λ t. option_map (λ us. t ∷ us) (all_written key_tree ks))) (writes k (is_key a.0 k a.3))
    ∙ ap (option_map (λ us. tree_of (key_entries k) ∷ us)) (keys_write a.1 ks a.4)

pub keys_read_back : (ts : Trees) (ks : List KeyFields) → HaveKeys ts ks → HaveKeys (trees (all_trees ks)) ks
keys_read_back ts [] a = refl
keys_read_back ts (k ∷ ks) a = (tree_of (key_entries k), trees (all_trees ks), refl, reads_back k (is_key a.0 k a.3), keys_read_back a.1 ks a.4)

pub set_writes : (t : Tree) (ks : List KeyFields) → HasKeySet t ks → key_set_tree ks ≡ Some (array (trees (all_trees ks)))
set_writes t ks a = ap (option_map (λ ts. array (trees ts))) (keys_write a.0 ks a.2)

pub set_reads_back : (t : Tree) (ks : List KeyFields) → HasKeySet t ks → HasKeySet (array (trees (all_trees ks))) ks
set_reads_back t ks a = (trees (all_trees ks), refl, keys_read_back a.0 ks a.2)

pub set_again : (t : Tree) (ks : List KeyFields) → HasKeySet t ks → (u : Tree) × (key_set_tree ks ≡ Some u) × HasKeySet u ks
set_again t ks a = (array (trees (all_trees ks)), set_writes t ks a, set_reads_back t ks a)
