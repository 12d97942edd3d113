-- The fields that the entries of a key that are read so far have given.
use Rattle.std.specs.Prelude.{◌≡◌, ℕ, pos, [], ◌∷◌, ◌++◌, List, false, Some}
use Rattle.ciborium_value.specs.Tree.{Tree, Pairs}
use Rattle.coset_labels.specs.Entries.{Distinct}
use Rattle.coset_labels.specs.Fields.{LabelFields, number, Named}
use Rattle.coset_labels.specs.Kinds.{some_bytes}
use Rattle.coset_labels.specs.Labels.{label_of}
use Rattle.coset_labels.specs.Walks as walks
use Rattle.coset_labels.specs.declared.label.Label.{Label}
use Rattle.coset_labels.specs.declared.seen_labels.SeenLabels.{SeenLabels}
use Rattle.coset_headers.specs.Headers.{alg_of}
use Rattle.coset_headers.specs.Parts.{SeesLabels}
use Rattle.coset_keys.specs.Fields.{KeyFields}
use Rattle.coset_keys.specs.Keys.{is_own, type_of, HasOperations, AreFields}
use Rattle.coset_keys.specs.View.{key_view}
use Rattle.coset_keys.specs.declared.key.CoseKey.{CoseKey}

-- the entry gives one field, and the others stay
pub data Fills (l : LabelFields) (v : Tree) (p q : KeyFields) : Type 0 where
  fills_kty : (n : Named) → l ≡ number (pos 1) → type_of v ≡ Some n → q ≡ record p { kty = n } → Fills l v p q
  fills_key_id : (b : List ℕ) → l ≡ number (pos 2) → some_bytes v ≡ Some b → q ≡ record p { key_id = b } → Fills l v p q
  fills_alg : (a : Named) → l ≡ number (pos 3) → alg_of v ≡ Some (Some a) → q ≡ record p { alg = Some a } → Fills l v p q
  fills_key_ops : (ns : List Named) → l ≡ number (pos 4) → HasOperations v ns → q ≡ record p { key_ops = ns } → Fills l v p q
  fills_base_iv : (b : List ℕ) → l ≡ number (pos 5) → some_bytes v ≡ Some b → q ≡ record p { base_iv = b } → Fills l v p q
  fills_param : is_own l ≡ false → q ≡ record p { params = p.params ++ (l, v) ∷ [] } → Fills l v p q

-- the fields are those of these entries, whose labels differ
pub record Known (es : List (LabelFields × Tree)) (k : KeyFields) : Type 0 where
  pub distinct : Distinct es
  pub fields : AreFields es k

-- and so are the labels that were seen
abbrev pub KnownIn : List (LabelFields × Tree) → SeenLabels Label → CoseKey → Type 0
KnownIn = walks.KnownIn SeesLabels (λ fs k. Known fs (key_view k))

-- one more entry is read
abbrev pub Added : List (LabelFields × Tree) → Tree → Tree → SeenLabels Label → CoseKey → Type 0
Added = walks.Added label_of SeesLabels (λ fs k. Known fs (key_view k))

-- the fields of all entries of a map
abbrev pub HasEntries : Pairs → KeyFields → Type 0
HasEntries ps k = walks.HasEntries label_of (λ es. Known es k) ps
