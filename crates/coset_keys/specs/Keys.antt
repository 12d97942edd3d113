-- Which fields a value has as a key and as a set of keys (RFC 9052, section 7).
use Rattle.std.specs.Prelude.{◌≡◌, ◌≢◌, ◌↔◌, List, [], ◌∷◌, Bool, ◌||◌, Option, Some, None, option_map, option_and_then}
use Rattle.std.specs.List.{Contains, IsDistinct}
use Rattle.std.specs.List.Sorted.{IsStrictlySortedBy}
use Rattle.std.specs.Ordering.{eq_by_cmp}
use Rattle.cose_iana.specs.Keys.{key_types, key_operations}
use Rattle.ciborium_value.specs.Tree.{Tree, array, map as map_tree, Trees, no_trees, one_more, Pairs}
use Rattle.coset_labels.specs.Entries.{Distinct, others as others_by, IsField}
use Rattle.coset_labels.specs.Fields.{LabelFields, Named}
use Rattle.coset_labels.specs.Kinds.{some_bytes}
use Rattle.coset_labels.specs.Labels.{registered_of}
use Rattle.coset_labels.specs.Orders.{named_cmp}
use Rattle.coset_headers.specs.Headers.{is_at, alg_of, entries, at}
use Rattle.coset_keys.specs.Fields.{KeyFields, reserved}

-- a label with a field of its own: 1 to 5
abbrev pub is_own : LabelFields → Bool
is_own l = is_at 1 l || (is_at 2 l || (is_at 3 l || (is_at 4 l || is_at 5 l)))

-- 1: the type
abbrev pub type_of : Tree → Option Named
type_of = registered_of key_types.is_registered

-- 4: the operations, a list that is not empty and has none twice; in the field they rise
abbrev pub operation_of : Tree → Option Named
operation_of = registered_of key_operations.is_registered

abbrev pub operations_of : Trees → Option (List Named)
operations_of no_trees = Some []
operations_of (one_more t ts) = option_and_then (λ n. option_map (λ ns. n ∷ ns) (operations_of ts)) (operation_of t)

-- the same operations in rising order
pub record Rises (listed rising : List Named) : Type 0 where
  pub unrepeated : IsDistinct (eq_by_cmp named_cmp) listed
  pub same : (n : Named) → Contains listed n ↔ Contains rising n
  pub ordered : IsStrictlySortedBy named_cmp rising

pub record HasOperations (t : Tree) (ns : List Named) : Type 0 where
  pub items : Trees
  pub listed : List Named
  pub list : t ≡ array items
  pub read : operations_of items ≡ Some listed
  pub nonempty : listed ≢ []
  pub rises : Rises listed ns

abbrev pub HasKeyOps : Option Tree → List Named → Type 0
HasKeyOps None ns = ns ≡ []
HasKeyOps (Some t) ns = HasOperations t ns

-- the entries of labels without a field of their own, in order
abbrev pub params_of : List (LabelFields × Tree) → List (LabelFields × Tree)
params_of = others_by is_own

-- the fields are those of the entries
pub record AreFields (es : List (LabelFields × Tree)) (k : KeyFields) : Type 0 where
  pub kty : IsField type_of reserved (at 1 es) k.kty
  pub key_id : IsField some_bytes [] (at 2 es) k.key_id
  pub alg : IsField alg_of None (at 3 es) k.alg
  pub key_ops : HasKeyOps (at 4 es) k.key_ops
  pub base_iv : IsField some_bytes [] (at 5 es) k.base_iv
  pub params : k.params ≡ params_of es

-- a key: a map whose keys are labels, none twice, with its fields; its type is neither absent nor 0
pub record HasKey (t : Tree) (k : KeyFields) : Type 0 where
  pub pairs : Pairs
  pub es : List (LabelFields × Tree)
  pub map : t ≡ map_tree pairs
  pub labels : entries pairs ≡ Some es
  pub distinct : Distinct es
  pub fields : AreFields es k
  pub typed : k.kty ≢ reserved

-- a set of keys: a list
abbrev pub HaveKeys : Trees → List KeyFields → Type 0
HaveKeys ts [] = ts ≡ no_trees
HaveKeys ts (k ∷ ks) = (u : Tree) × (us : Trees) × (ts ≡ one_more u us) × HasKey u k × HaveKeys us ks

abbrev pub HasKeySet : Tree → List KeyFields → Type 0
HasKeySet t ks = (ts : Trees) × (t ≡ array ts) × HaveKeys ts ks
