-- Which fault a value has as a header, a protected header, a signature (RFC 9052, sections 3, 3.1
-- and 4.1). A value may have several. The nesting limit `n` and the layers left `k` are those of
-- the fields.
use Rattle.std.specs.Prelude.{◌≡◌, ◌≢◌, ℕ, pos, ◌-◌, ◌<◌, List, [], ◌∷◌, ◌++◌, true, false, Some}
use Rattle.std.specs.List.{count_by}
use Rattle.std.specs.Str.{trim}
use Rattle.cose_iana.specs.Algorithms.{is_algorithm}
use Rattle.cose_iana.specs.Formats.{coap_content_formats}
use Rattle.cose_iana.specs.Headers.{header_parameters}
use Rattle.cose_iana.specs.Registry.{is_private_use}
use Rattle.ciborium_value.specs.Tree.{Tree, bytes, text, array, map as map_tree, Trees, no_trees, one_more, tree_count, is_bytes}
use Rattle.ciborium_value.specs.View.{trees, pairs}
use Rattle.ciborium.specs.Front.{Reads}
use Rattle.coset_labels.specs.Fields.{LabelFields, number}
use Rattle.coset_labels.specs.Faults.{CoseFault, duplicate_key, unexpected, too_many_layers}
use Rattle.ciborium_value.specs.Kinds.{is_map, is_array}
use Rattle.coset_labels.specs.Kinds.{WrongBytes}
use Rattle.coset_labels.specs.Labels.{label_of, WrongLabel, WrongRegistered, WrongNamed}
use Rattle.coset_labels.specs.Reading.{NotReadable}
use Rattle.coset_headers.specs.Headers.{is_at, is_slash, entries, at, IsIn, IsBare, IsList, list_of_three}

-- no list, an empty one, or an item that is no label to be understood
pub data WrongCrit : Tree → CoseFault → Type 0 where
  no_crit_list : (t : Tree) → is_array t ≡ false → WrongCrit t unexpected
  empty_crit : WrongCrit (array no_trees) unexpected
  bad_crit : (before after : List Tree) (t : Tree) (e : CoseFault) → WrongNamed header_parameters.is_registered is_private_use t e
      → WrongCrit (array (trees (before ++ t ∷ after))) e

-- no content type, or a text that is empty, has white space at an end, or another number of slashes
-- than one
pub data WrongContentType : Tree → CoseFault → Type 0 where
  no_content_type : (t : Tree) (e : CoseFault) → WrongRegistered coap_content_formats.is_registered t e → WrongContentType t e
  empty_text : WrongContentType (text []) unexpected
  white_space : (b : List ℕ) → trim b ≢ b → WrongContentType (text b) unexpected
  no_one_slash : (b : List ℕ) → count_by is_slash b ≢ 1 → WrongContentType (text b) unexpected

-- the value of a label from 1 to 6
pub data WrongField (v : Tree) : LabelFields → CoseFault → Type 0 where
  wrong_alg : (e : CoseFault) → WrongNamed is_algorithm is_private_use v e → WrongField v (number (pos 1)) e
  wrong_crit : (e : CoseFault) → WrongCrit v e → WrongField v (number (pos 2)) e
  wrong_content_type : (e : CoseFault) → WrongContentType v e → WrongField v (number (pos 3)) e
  wrong_key_id : (e : CoseFault) → WrongBytes v e → WrongField v (number (pos 4)) e
  wrong_iv : (e : CoseFault) → WrongBytes v e → WrongField v (number (pos 5)) e
  wrong_partial_iv : (e : CoseFault) → WrongBytes v e → WrongField v (number (pos 6)) e

-- the first is neither bytes nor a list, or there is none
abbrev pub NoSignature : Trees → Type 0
NoSignature no_trees = Unit {0}
NoSignature (one_more t ts) = (is_bytes t ≡ false) × (is_array t ≡ false)

mutual
  pub data WrongHeader (n : ℕ) : Tree → ℕ → CoseFault → Type 0 where
    no_map : (t : Tree) (k : ℕ) → is_map t ≡ false → WrongHeader n t k unexpected
    at_entry : (before after : List (Tree × Tree)) (l v : Tree) (es : List (LabelFields × Tree)) (k : ℕ) (e : CoseFault)
        → entries (pairs before) ≡ Some es → WrongEntry n es l v k e → WrongHeader n (map_tree (pairs (before ++ (l, v) ∷ after))) k e

  -- the entry (l, v) after the entries `es`; of a label that comes again no other fault counts
  pub data WrongEntry (n : ℕ) : List (LabelFields × Tree) → Tree → Tree → ℕ → CoseFault → Type 0 where
    bad_label : (es : List (LabelFields × Tree)) (l v : Tree) (k : ℕ) (e : CoseFault) → WrongLabel l e → WrongEntry n es l v k e
    label_again : (es : List (LabelFields × Tree)) (l v : Tree) (k : ℕ) (m : LabelFields) → label_of l ≡ Some m → IsIn m es
        → WrongEntry n es l v k duplicate_key
    bad_field : (es : List (LabelFields × Tree)) (l v : Tree) (k : ℕ) (m : LabelFields) (e : CoseFault) → label_of l ≡ Some m
        → (IsIn m es → ⊥) → WrongField v m e → WrongEntry n es l v k e
    two_ivs : (es : List (LabelFields × Tree)) (l v b c : Tree) (k : ℕ) (m : LabelFields) → label_of l ≡ Some m
        → (IsIn m es → ⊥) → at 5 (es ++ (m, v) ∷ []) ≡ Some b → at 6 (es ++ (m, v) ∷ []) ≡ Some c → WrongEntry n es l v k unexpected
    bad_signatures : (es : List (LabelFields × Tree)) (l v : Tree) (k : ℕ) (m : LabelFields) (e : CoseFault) → label_of l ≡ Some m
        → (IsIn m es → ⊥) → is_at 7 m ≡ true → WrongSigned n v k e → WrongEntry n es l v k e

  -- counter signatures
  pub data WrongSigned (n : ℕ) : Tree → ℕ → CoseFault → Type 0 where
    no_list : (t : Tree) (k : ℕ) → is_array t ≡ false → WrongSigned n t k unexpected
    no_first : (ts : Trees) (k : ℕ) → NoSignature ts → WrongSigned n (array ts) k unexpected
    in_bare : (ts : Trees) (k : ℕ) (e : CoseFault) → IsBare ts → WrongSignature n (array ts) k e → WrongSigned n (array ts) k e
    in_list : (before after : List Tree) (t : Tree) (k : ℕ) (e : CoseFault) → IsList (trees (before ++ t ∷ after)) → WrongSignature n t k e
        → WrongSigned n (array (trees (before ++ t ∷ after))) k e

  pub data WrongSignature (n : ℕ) : Tree → ℕ → CoseFault → Type 0 where
    no_array : (t : Tree) (k : ℕ) → is_array t ≡ false → WrongSignature n t k unexpected
    not_three : (ts : Trees) (k : ℕ) → tree_count ts ≢ 3 → WrongSignature n (array ts) k unexpected
    in_protected : (a b c : Tree) (k : ℕ) (e : CoseFault) → WrongProtected n a k e → WrongSignature n (array (list_of_three a b c)) k e
    in_unprotected : (a b c : Tree) (k : ℕ) (e : CoseFault) → WrongHeader n b k e → WrongSignature n (array (list_of_three a b c)) k e
    no_bytes : (a b c : Tree) (k : ℕ) → is_bytes c ≡ false → WrongSignature n (array (list_of_three a b c)) k unexpected

  -- with no layer left a byte string is too deep, whether it is empty or not
  pub data WrongProtected (n : ℕ) : Tree → ℕ → CoseFault → Type 0 where
    no_string : (t : Tree) (k : ℕ) → is_bytes t ≡ false → WrongProtected n t k unexpected
    too_deep : (b : List ℕ) → WrongProtected n (bytes b) 0 too_many_layers
    unreadable : (b : List ℕ) (k : ℕ) (e : CoseFault) → 0 < k → b ≢ [] → NotReadable b n e → WrongProtected n (bytes b) k e
    inside : (b : List ℕ) (t : Tree) (k : ℕ) (e : CoseFault) → 0 < k → b ≢ [] → Reads b n t → WrongHeader n t (k - 1) e
        → WrongProtected n (bytes b) k e
