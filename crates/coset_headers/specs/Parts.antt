-- The fields that the entries of a header that are read so far have given, and the faults of the
-- next.
use Rattle.std.specs.Prelude.{◌≡◌, ◌≢◌, ℕ, pos, ◌≤◌, ◌⊎◌, List, [], ◌∷◌, ◌++◌, length, Bool, true, false, MatchBool, Some}
use Rattle.std.specs.Ordering.{on}
use Rattle.ciborium_value.specs.Tree.{Tree}
use Rattle.coset_labels.specs.Fields.{LabelFields, number, Named}
use Rattle.coset_labels.specs.Faults.{CoseFault, unexpected}
use Rattle.coset_labels.specs.Kinds.{some_bytes}
use Rattle.coset_labels.specs.Labels.{label_of}
use Rattle.coset_labels.specs.Orders.{label_cmp}
use Rattle.coset_labels.specs.SeenLabels as keys
use Rattle.coset_labels.specs.Walks as walks
use Rattle.coset_labels.specs.View.{label_view}
use Rattle.coset_labels.specs.declared.label.Label.{Label}
use Rattle.coset_labels.specs.declared.seen_labels.SeenLabels.{SeenLabels}
use Rattle.coset_headers.specs.Fields.{Plain, Signatures}
use Rattle.coset_headers.specs.Headers.{is_at, is_core, alg_of, crit_of, HasContentType, at, others, IsIn, Distinct, IsPlain, HasSigned}
use Rattle.coset_headers.specs.View.{plain_parts, signatures_view}
use Rattle.coset_headers.specs.Wrong.{WrongField}
use Rattle.coset_headers.specs.declared.fields.Place.{Place}
use Rattle.coset_headers.specs.declared.fields.Place.TheVariants as place
use Rattle.coset_headers.specs.declared.header.Header.{Header, out-Header}

-- the labels of these entries, and no others, were seen
abbrev pub SeesLabels : SeenLabels Label → List (LabelFields × Tree) → Type 0
SeesLabels = keys.Sees (on label_view label_cmp) label_view

-- the labels of the entries that come after the first 64 were seen, and no others
pub record SeesMany (s : SeenLabels Label) (es : List (LabelFields × Tree)) : Type 0 where
  pub few : List (LabelFields × Tree)
  pub more : List (LabelFields × Tree)
  pub are : es ≡ few ++ more
  pub at_most : length few ≤ 64
  pub full : (length few ≡ 64) ⊎ (more ≡ [])
  pub sees : SeesLabels s more

-- the labels without a field of their own among these entries, and no others, were seen
abbrev pub Sees : SeenLabels Label → List (LabelFields × Tree) → Type 0
Sees s es = SeesMany s (others es)

-- the label of the next entry is new if b is true, and then it is taken for seen
abbrev pub IsFresh : LabelFields → List (LabelFields × Tree) → SeenLabels Label → Bool → Type 0
IsFresh m es s b = MatchBool b ((IsIn m es → ⊥) × ((v : Tree) → Sees s (es ++ (m, v) ∷ []))) (IsIn m es)

abbrev pub plain_of : Header → Plain
plain_of h = plain_parts (out-Header h)

abbrev pub signs_of : Header → Signatures
signs_of h = signatures_view (out-Header h).counter_signatures.items

-- the fields are those of these entries
pub record Known (n : ℕ) (es : List (LabelFields × Tree)) (p : Plain) (ss : Signatures) (k : ℕ) : Type 0 where
  pub distinct : Distinct es
  pub plain : IsPlain es p
  pub signed : HasSigned n (at 7 es) ss k

-- the same, and the labels that were seen are those of these entries
abbrev pub KnownIn : ℕ → List (LabelFields × Tree) → SeenLabels Label → Header → ℕ → Type 0
KnownIn n es s p k = walks.KnownIn Sees (λ fs q. Known n fs (plain_of q) (signs_of q) k) es s p

-- one more entry is read
abbrev pub Added : ℕ → List (LabelFields × Tree) → Tree → Tree → SeenLabels Label → Header → ℕ → Type 0
Added n es l v s p k = walks.Added label_of Sees (λ fs q. Known n fs (plain_of q) (signs_of q) k) es l v s p

-- the key of the next entry is the label of counter signatures, which is new
pub record SignsNext (es : List (LabelFields × Tree)) (l : Tree) (s : SeenLabels Label) : Type 0 where
  pub label : LabelFields
  pub is : label_of l ≡ Some label
  pub signs : is_at 7 label ≡ true
  pub fresh : IsIn label es → ⊥
  pub sees : (w : Tree) → Sees s (es ++ (label, w) ∷ [])

-- the entry gives one field, and the others stay
pub data Fills (l : LabelFields) (v : Tree) (p q : Plain) : Type 0 where
  fills_alg : (a : Named) → l ≡ number (pos 1) → alg_of v ≡ Some (Some a) → q ≡ record p { alg = Some a } → Fills l v p q
  fills_crit : (ns : List Named) → l ≡ number (pos 2) → crit_of v ≡ Some ns → q ≡ record p { crit = ns } → Fills l v p q
  fills_content_type : (c : Named) → l ≡ number (pos 3) → HasContentType (Some v) (Some c)
      → q ≡ record p { content_type = Some c } → Fills l v p q
  fills_key_id : (b : List ℕ) → l ≡ number (pos 4) → some_bytes v ≡ Some b → q ≡ record p { key_id = b } → Fills l v p q
  fills_iv : (b : List ℕ) → l ≡ number (pos 5) → some_bytes v ≡ Some b → p.partial_iv ≡ [] → q ≡ record p { iv = b } → Fills l v p q
  fills_partial_iv : (b : List ℕ) → l ≡ number (pos 6) → some_bytes v ≡ Some b → p.iv ≡ [] → q ≡ record p { partial_iv = b } → Fills l v p q
  fills_rest : is_core l ≡ false → q ≡ record p { rest = p.rest ++ (l, v) ∷ [] } → Fills l v p q

pub record Filled (l : LabelFields) (v : Tree) (old new : Header) : Type 0 where
  pub fields : Fills l v (plain_of old) (plain_of new)
  pub signs : signs_of new ≡ signs_of old

-- the value of a label but 7, if the fields p are set
pub data WrongFill (l : LabelFields) (v : Tree) (p : Plain) (e : CoseFault) : Type 0 where
  field_wrong : WrongField v l e → WrongFill l v p e
  iv_second : (b : List ℕ) → l ≡ number (pos 5) → some_bytes v ≡ Some b → p.partial_iv ≢ []
      → e ≡ unexpected → WrongFill l v p e
  partial_iv_second : (b : List ℕ) → l ≡ number (pos 6) → some_bytes v ≡ Some b → p.iv ≢ []
      → e ≡ unexpected → WrongFill l v p e

-- the place in a header that a label names (RFC 9052, section 3.1)
abbrev pub Names : Place → LabelFields → Type 0
Names place.Alg l = l ≡ number (pos 1)
Names place.Crit l = l ≡ number (pos 2)
Names place.ContentType l = l ≡ number (pos 3)
Names place.KeyId l = l ≡ number (pos 4)
Names place.Iv l = l ≡ number (pos 5)
Names place.PartialIv l = l ≡ number (pos 6)
Names place.CounterSignatures l = l ≡ number (pos 7)
Names place.Rest l = is_core l ≡ false
