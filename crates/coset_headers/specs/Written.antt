-- The value that stands for the fields of a header or a signature, and the bytes that structures
-- and messages show for a protected header (RFC 9052, sections 3 and 3.1). There is none if a label
-- is repeated in a `rest` that is written.
use Rattle.std.specs.Prelude.{ℕ, pos, List, [], ◌∷◌, ◌++◌, map, Bool, true, false, ◌||◌, ◌&&◌, if◌then◌else◌, not, Option, Some, None, is_some, option_map, option_and_then}
use Rattle.std.specs.Ordering.{is_eq}
use Rattle.ciborium_value.specs.Tree.{Tree, bytes, array, map as map_tree, Trees, no_trees, one_more}
use Rattle.ciborium_value.specs.View.{trees, pairs}
use Rattle.ciborium_value.specs.Encoding.{enc}
use Rattle.coset_labels.specs.Fields.{LabelFields, number, Named}
use Rattle.coset_labels.specs.Labels.{label_tree, named_tree}
use Rattle.coset_labels.specs.Orders.{label_cmp}
use Rattle.coset_labels.specs.Table as table
use Rattle.coset_headers.specs.Fields.{Plain, HeaderFields, header, ProtectedFields, protected, SignatureFields, signature, Signatures, no_signatures, signature_more}
use Rattle.coset_headers.specs.Headers.{list_of_three}

-- the entry with the label n, if there is a value for it
abbrev pub entry_of : ℕ → Option Tree → List (LabelFields × Tree)
entry_of = table.entry_of (λ n. number (pos n))

-- the values of fields; an empty one has none
abbrev pub crit_value : List Named → Option Tree
crit_value [] = None
crit_value (m ∷ ms) = Some (array (trees (map named_tree (m ∷ ms))))

abbrev pub bytes_value : List ℕ → Option Tree
bytes_value [] = None
bytes_value (x ∷ xs) = Some (bytes (x ∷ xs))

-- the fields at their labels, each with its value if it is set; o is that of the counter signatures
abbrev pub fields_of : Plain → Option Tree → List (ℕ × Option Tree)
fields_of p o = (1, option_map named_tree p.alg) ∷ (2, crit_value p.crit) ∷ (3, option_map named_tree p.content_type)
    ∷ (4, bytes_value p.key_id) ∷ (5, bytes_value p.iv) ∷ (6, bytes_value p.partial_iv) ∷ (7, o) ∷ []

-- the entries of the fields that are set, and then the entries es
abbrev pub entries_of : List (ℕ × Option Tree) → List (LabelFields × Tree) → List (LabelFields × Tree)
entries_of = table.entries_of (λ n. number (pos n))

-- the entries in their fixed order, those of empty fields left away
abbrev pub written_entries : Plain → Option Tree → List (LabelFields × Tree)
written_entries p o = entries_of (fields_of p o) p.rest

-- the entry of one field alone
abbrev pub name_entry : ℕ → Option Named → List (LabelFields × Tree)
name_entry n o = entry_of n (option_map named_tree o)

abbrev pub crit_entry : List Named → List (LabelFields × Tree)
crit_entry ms = entry_of 2 (crit_value ms)

abbrev pub bytes_entry : ℕ → List ℕ → List (LabelFields × Tree)
bytes_entry n b = entry_of n (bytes_value b)

abbrev pub entry_tree : LabelFields × Tree → Tree × Tree
entry_tree e = (label_tree e.0, e.1)

abbrev pub tree_of : List (LabelFields × Tree) → Tree
tree_of es = map_tree (pairs (map entry_tree es))

-- whether the label is among the entries, and whether one is repeated
abbrev pub stands : LabelFields → List (LabelFields × Tree) → Bool
stands l [] = false
stands l (e ∷ es) = is_eq (label_cmp l e.0) || stands l es

abbrev pub twice : List (LabelFields × Tree) → Bool
twice [] = false
twice (e ∷ es) = stands e.0 es || twice es

-- one counter signature is by itself, and several are in a list
abbrev pub bare_or_list : Trees → Option Tree
bare_or_list no_trees = None
bare_or_list (one_more t no_trees) = Some t
bare_or_list (one_more t (one_more u us)) = Some (array (one_more t (one_more u us)))

abbrev pub header_of : Plain → Trees → Option Tree
header_of p ts = if twice p.rest then None else Some (tree_of (written_entries p (bare_or_list ts)))

abbrev pub is_nil : {A : Type 0} → List A → Bool
is_nil [] = true
is_nil (x ∷ xs) = false

abbrev pub is_unsigned : Signatures → Bool
is_unsigned no_signatures = true
is_unsigned (signature_more s ss) = false

abbrev pub none_set : List (ℕ × Option Tree) → Bool
none_set [] = true
none_set (f ∷ fs) = not (is_some f.1) && none_set fs

-- no field is set
abbrev pub is_empty : HeaderFields → Bool
is_empty (header p ss) = none_set (fields_of p None) && (is_unsigned ss && is_nil p.rest)

abbrev mutual
  pub header_tree : HeaderFields → Option Tree
  header_tree (header p ss) = option_and_then (λ ts. header_of p ts) (signature_trees ss)

  -- the bytes that were received; else none for an empty header, and the encoded map for another. A
  -- received empty map stays one.
  pub shown : ProtectedFields → Option (List ℕ)
  shown (protected (Some b) h) = Some b
  shown (protected None h) = if is_empty h then Some [] else option_map enc (header_tree h)

  pub signature_tree : SignatureFields → Option Tree
  signature_tree (signature p h c) =
      option_and_then (λ b. option_map (λ t. array (list_of_three (bytes b) t (bytes c))) (header_tree h)) (shown p)

  pub signature_trees : Signatures → Option Trees
  signature_trees no_signatures = Some no_trees
  signature_trees (signature_more s ss) = option_and_then (λ t. option_map (λ ts. one_more t ts) (signature_trees ss)) (signature_tree s)
