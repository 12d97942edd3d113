-- Which fields a value has as a header, a protected header, a signature (RFC 9052, sections 3, 3.1
-- and 4.1). Each definition has the nesting limit `n` of protected bytes, and how many protected
-- byte strings may still lie inside one another, `k`.
use Rattle.std.specs.Prelude.{◌≡◌, ◌≢◌, ℕ, ◌-◌, ◌<◌, ◌⊎◌, List, [], ◌∷◌, Bool, ◌||◌, nat_eq, Option, Some, None, option_map, option_and_then}
use Rattle.std.specs.Str.{trim}
use Rattle.std.specs.List.{count_by}
use Rattle.cose_iana.specs.Algorithms.{is_algorithm}
use Rattle.cose_iana.specs.Formats.{coap_content_formats}
use Rattle.cose_iana.specs.Headers.{header_parameters}
use Rattle.cose_iana.specs.Registry.{is_private_use}
use Rattle.ciborium_value.specs.Tree.{Tree, bytes, array, map as map_tree, Trees, no_trees, one_more, Pairs}
use Rattle.ciborium.specs.Front.{Reads}
use Rattle.coset_labels.specs.Entries.{is_label}
use Rattle.coset_labels.specs.Entries as map_entries
use Rattle.coset_labels.specs.Fields.{LabelFields, Named, named}
use Rattle.coset_labels.specs.Kinds.{some_bytes}
use Rattle.coset_labels.specs.Labels.{label_of, registered_of, named_of}
use Rattle.coset_headers.specs.Fields.{Plain, HeaderFields, header, ProtectedFields, protected, SignatureFields, signature, Signatures, no_signatures, signature_more, no_header}

abbrev pub is_at : ℕ → LabelFields → Bool
is_at = is_label

-- a label with a field of its own: 1 to 7
abbrev pub is_core : LabelFields → Bool
is_core l = is_at 1 l || (is_at 2 l || (is_at 3 l || (is_at 4 l || (is_at 5 l || (is_at 6 l || is_at 7 l)))))

-- 1: the algorithm
abbrev pub alg_of : Tree → Option (Option Named)
alg_of t = option_map Some (named_of is_algorithm is_private_use t)

-- 2: the labels that have to be understood, a list that is not empty
abbrev pub parameter_of : Tree → Option Named
parameter_of = named_of header_parameters.is_registered is_private_use

abbrev pub parameters_of : Trees → Option (List Named)
parameters_of no_trees = Some []
parameters_of (one_more t ts) = option_and_then (λ n. option_map (λ ns. n ∷ ns) (parameters_of ts)) (parameter_of t)

abbrev pub crit_of : Tree → Option (List Named)
crit_of (array (one_more t ts)) = parameters_of (one_more t ts)
crit_of _ = None

-- 3: the content type, a registered number or a text of the form type/subtype: no white space at
-- its ends, and one slash
abbrev pub is_slash : ℕ → Bool
is_slash b = nat_eq b 47

abbrev pub IsContentType : Named → Type 0
IsContentType (named b) = (b ≢ []) × (trim b ≡ b) × (count_by is_slash b ≡ 1)
IsContentType _ = Unit {0}

abbrev pub format_of : Tree → Option Named
format_of = registered_of coap_content_formats.is_registered

abbrev pub HasContentType : Option Tree → Option Named → Type 0
HasContentType None c = c ≡ None
HasContentType (Some t) c = (f : Named) × (format_of t ≡ Some f) × IsContentType f × (c ≡ Some f)

-- the entries of a map with their labels, or none if a key is no label
abbrev pub entries : Pairs → Option (List (LabelFields × Tree))
entries = map_entries.entries label_of

-- the value at the label n
abbrev pub at : ℕ → List (LabelFields × Tree) → Option Tree
at n = map_entries.at (is_at n)

abbrev pub IsIn : LabelFields → List (LabelFields × Tree) → Type 0
IsIn = map_entries.IsIn

-- no label is repeated
abbrev pub Distinct : List (LabelFields × Tree) → Type 0
Distinct = map_entries.Distinct

-- the entries of labels without a field of their own, in order
abbrev pub others : List (LabelFields × Tree) → List (LabelFields × Tree)
others = map_entries.others is_core

-- the field is what the value there is, and `absent` if none is
abbrev pub IsField : {A : Type 0} → (Tree → Option A) → A → Option Tree → A → Type 0
IsField = map_entries.IsField

-- the fields that hold no header are those of the entries; never both IV and partial IV
pub record IsPlain (es : List (LabelFields × Tree)) (p : Plain) : Type 0 where
  pub alg : IsField alg_of None (at 1 es) p.alg
  pub crit : IsField crit_of [] (at 2 es) p.crit
  pub content_type : HasContentType (at 3 es) p.content_type
  pub key_id : IsField some_bytes [] (at 4 es) p.key_id
  pub iv : IsField some_bytes [] (at 5 es) p.iv
  pub partial_iv : IsField some_bytes [] (at 6 es) p.partial_iv
  pub one_iv : (p.iv ≡ []) ⊎ (p.partial_iv ≡ [])
  pub rest : p.rest ≡ others es

-- a list that begins with a byte string, and one that begins with a list
abbrev pub IsBare : Trees → Type 0
IsBare ts = (b : List ℕ) × (us : Trees) × (ts ≡ one_more (bytes b) us)

abbrev pub IsList : Trees → Type 0
IsList ts = (us vs : Trees) × (ts ≡ one_more (array us) vs)

abbrev pub list_of_three : Tree → Tree → Tree → Trees
list_of_three a b c = one_more a (one_more b (one_more c no_trees))

-- a header: a map whose keys are labels, none twice, with its fields and, at 7, counter signatures
abbrev mutual
  pub HasHeader : ℕ → Tree → HeaderFields → ℕ → Type 0
  HasHeader n t (header p ss) k = (ps : Pairs) × (es : List (LabelFields × Tree)) × (t ≡ map_tree ps) × (entries ps ≡ Some es)
      × Distinct es × IsPlain es p × HasSigned n (at 7 es) ss k

  -- a protected one: a byte string, empty or just one readable item that is a header
  -- with one layer less; its bytes are kept
  pub HasProtected : ℕ → Tree → ProtectedFields → ℕ → Type 0
  HasProtected n t (protected o h) k = (b : List ℕ) × (t ≡ bytes b) × (o ≡ Some b) × (0 < k)
      × (((b ≡ []) × (h ≡ no_header)) ⊎ ((b ≢ []) × ((v : Tree) × Reads b n v × HasHeader n v h (k - 1))))

  -- a signature: a protected header, an unprotected one, the signature
  pub HasSignature : ℕ → Tree → SignatureFields → ℕ → Type 0
  HasSignature n t (signature p h c) k = (a b : Tree) × (t ≡ array (list_of_three a b (bytes c))) × HasProtected n a p k × HasHeader n b h k

  -- counter signatures: none, one by itself, or a list that is not empty
  pub HasSigned : ℕ → Option Tree → Signatures → ℕ → Type 0
  HasSigned n o no_signatures k = o ≡ None
  HasSigned n o (signature_more s ss) k = (ts : Trees) × (o ≡ Some (array ts))
      × ((IsBare ts × (ss ≡ no_signatures) × HasSignature n (array ts) s k)
      ⊎ (IsList ts × ((u : Tree) × (us : Trees) × (ts ≡ one_more u us) × HasSignature n u s k × HasSignatures n us ss k)))

  pub HasSignatures : ℕ → Trees → Signatures → ℕ → Type 0
  HasSignatures n ts no_signatures k = ts ≡ no_trees
  HasSignatures n ts (signature_more s ss) k = (u : Tree) × (us : Trees) × (ts ≡ one_more u us)
      × HasSignature n u s k × HasSignatures n us ss k
