-- A value has the fields of a header, or a fault as one; and so of a protected header and of a
-- signature.
use Rattle.std.proofs.Common.{◌≡◌, ◌≢◌, ℕ, zero, suc, ◌-◌, ◌<◌, ◌≤◌, ◌⊎◌, inl, inr, List, [], ◌∷◌, ◌++◌, length, true, false, Some, refl, sym, ap, subst, ◌∙◌, arith, append_assoc, append-nil}
use Rattle.std.specs.Prelude.{All}
use Rattle.std.proofs.lemmas.Bool.{cases_eq}
use Rattle.ciborium_value.specs.Tree.{Tree, integer, bytes, text, array, map as map_tree, tag, simple, float, Trees, no_trees, one_more, Pairs, no_pairs, pair_more}
use Rattle.ciborium_value.specs.View.{trees, pairs}
use Rattle.ciborium.specs.Front.{Reads, Front}
use Rattle.ciborium.proofs.ChildCases.{ItemCase, readable, damaged as broken}
use Rattle.ciborium.proofs.ItemCases.{item_case}
use Rattle.coset_labels.specs.Fields.{LabelFields}
use Rattle.coset_labels.specs.Faults.{CoseFault, undecodable, extraneous, duplicate_key, unexpected, too_many_layers}
use Rattle.coset_labels.specs.Labels.{label_of, WrongLabel}
use Rattle.coset_labels.specs.Reading.{damaged, goes_on}
use Rattle.coset_headers.specs.Fields.{Plain, HeaderFields, header, ProtectedFields, protected, SignatureFields, signature, Signatures, no_signatures, signature_more, no_header, no_plain}
use Rattle.coset_headers.specs.Headers.{is_at, entries, IsIn, IsPlain, IsBare, IsList, list_of_three, HasHeader, HasProtected, HasSignature, HasSigned, HasSignatures}
use Rattle.coset_headers.specs.Parts.{Known}
use Rattle.coset_headers.specs.Weight.{weight, weight_all, weight_pairs}
use Rattle.coset_headers.specs.Wrong.{WrongHeader, no_map, at_entry, WrongEntry, bad_label, label_again, bad_signatures, WrongSigned, no_list, no_first, in_bare, in_list, WrongSignature, no_array, not_three, in_protected, in_unprotected, no_bytes, WrongProtected, no_string, too_deep, unreadable, inside}
use Rattle.coset_headers.proofs.Entered.{entries_snoc, is_at_is, at_old, at_new, at_none, bool_cases, distinct_snoc, filled_plain, signed_plain, none_plain}
use Rattle.coset_headers.proofs.Steps.{entry_filled}
use Rattle.coset_headers.proofs.Weights.{reads_long}
use Rattle.cose_gate_core.proofs.Lows.{IsByte, Low, LowAll, LowPairs, reads_low}
use Rattle.cose_gate_core.proofs.FieldCases.{list_of, list_trees, label_case, in_cases, nil_cases, FillCase, fill_case}

abbrev pub HeaderCase : ℕ → Tree → ℕ → Type 0
HeaderCase n t k = ((h : HeaderFields) × HasHeader n t h k) ⊎ ((e : CoseFault) × WrongHeader n t k e)

abbrev pub ProtectedCase : ℕ → Tree → ℕ → Type 0
ProtectedCase n t k = ((p : ProtectedFields) × HasProtected n t p k) ⊎ ((e : CoseFault) × WrongProtected n t k e)

abbrev pub SignatureCase : ℕ → Tree → ℕ → Type 0
SignatureCase n t k = ((s : SignatureFields) × HasSignature n t s k) ⊎ ((e : CoseFault) × WrongSignature n t k e)

-- a list of entries of a map
abbrev pub entry_list : Pairs → List (Tree × Tree)
entry_list no_pairs = []
entry_list (pair_more k v ps) = (k, v) ∷ entry_list ps

entry_pairs : (ps : Pairs) → ps ≡ pairs (entry_list ps)
entry_pairs no_pairs = refl
entry_pairs (pair_more k v ps) = ap (pair_more k v) (entry_pairs ps)

-- values that are lighter than w, and whose byte strings are bytes
abbrev pub Lighter : ℕ → Tree → Type 0
Lighter w t = (weight t < w) × Low t

abbrev pub AllLighter : ℕ → Trees → Type 0
AllLighter w no_trees = Unit {0}
AllLighter w (one_more t ts) = Lighter w t × AllLighter w ts

abbrev ValuesLighter : ℕ → List (Tree × Tree) → Type 0
ValuesLighter w [] = Unit {0}
ValuesLighter w (x ∷ xs) = Lighter w x.1 × ValuesLighter w xs

pub all_lighter : (w : ℕ) (ts : Trees) → weight_all ts < w → LowAll ts → AllLighter w ts
all_lighter w no_trees l low = tt
all_lighter w (one_more t ts) l low = ((omega (arith, l), low.0), all_lighter w ts (omega (arith, l)) low.1)

values_lighter : (w : ℕ) (ps : Pairs) → weight_pairs ps < w → LowPairs ps → ValuesLighter w (entry_list ps)
values_lighter w no_pairs l low = tt
values_lighter w (pair_more k v ps) l low = ((omega (arith, l), low.1), values_lighter w ps (omega (arith, l)) low.2)

-- the cases of all headers that are lighter than w
module _ (n w : ℕ) (lighter : (u : Tree) (j : ℕ) → weight u < w → Low u → HeaderCase n u j) where
  -- ---- a protected header
  module _ (k : ℕ) (b : List ℕ) (left : 0 < k) (some : b ≢ []) where
    whole_item : (v : Tree) → Reads b n v → HeaderCase n v (k - 1) → ProtectedCase n (bytes b) k
    whole_item v r (inl (h, a)) = inl (protected (Some b) h, (b, refl, refl, left, inr (some, (v, r, a))))
    whole_item v r (inr (e, a)) = inr (e, inside b v k e left some r a)

    front_item : (v : Tree) (rest : List ℕ) → Front b n v rest → length b < w → All IsByte b → ProtectedCase n (bytes b) k
    front_item v [] f l low =
        let r : Reads b n v = subst (λ z. Reads z n v) (sym (f.whole ∙ append-nil f.spelling)) f.reads in
        whole_item v r (lighter v (k - 1) (omega (arith, reads_long b n v r, l)) (reads_low b n v r low))
    front_item v (x ∷ xs) f l low = inr (extraneous, unreadable b k extraneous left some (goes_on v (x ∷ xs) f (λ e. let h : x ∷ xs ≡ [] = e in cc)))

    by_item : ItemCase (length b) n b → length b < w → All IsByte b → ProtectedCase n (bytes b) k
    by_item (readable v rest f) l low = front_item v rest f l low
    by_item (broken e d) l low = inr (undecodable e, unreadable b k (undecodable e) left some (damaged e d))

  string_protected : (k : ℕ) (b : List ℕ) → length b < w → All IsByte b → ProtectedCase n (bytes b) k
  string_protected k b l low = go (cases_eq k 0) (nil_cases b)
    where
      go : (k ≡ 0) ⊎ (k ≡ 0 → ⊥) → (b ≡ []) ⊎ (b ≢ []) → ProtectedCase n (bytes b) k
      go (inl z) e = inr (too_many_layers, subst (λ j. WrongProtected n (bytes b) j too_many_layers) (sym z) (too_deep b))
      go (inr z) (inl e) = inl (protected (Some b) no_header, (b, refl, refl, omega (arith, z), inl (e, refl)))
      go (inr z) (inr e) = by_item k b (omega (arith, z)) e (item_case (length b) n b (omega arith) low) l low

  pub protected_case : (k : ℕ) (t : Tree) → weight t < w → Low t → ProtectedCase n t k
  protected_case k (bytes b) l low = string_protected k b (omega (arith, l)) low
  protected_case k (integer i) l low = inr (unexpected, no_string (integer i) k refl)
  protected_case k (text b) l low = inr (unexpected, no_string (text b) k refl)
  protected_case k (array ts) l low = inr (unexpected, no_string (array ts) k refl)
  protected_case k (map_tree ps) l low = inr (unexpected, no_string (map_tree ps) k refl)
  protected_case k (tag m t) l low = inr (unexpected, no_string (tag m t) k refl)
  protected_case k (simple m) l low = inr (unexpected, no_string (simple m) k refl)
  protected_case k (float f) l low = inr (unexpected, no_string (float f) k refl)

  -- ---- a signature
  three_case : (k : ℕ) (a b c : Tree) → ProtectedCase n a k → HeaderCase n b k → SignatureCase n (array (list_of_three a b c)) k
  three_case k a b c (inr (e, x)) h = inr (e, in_protected a b c k e x)
  three_case k a b c (inl p) (inr (e, x)) = inr (e, in_unprotected a b c k e x)
  three_case k a b (bytes d) (inl (p, x)) (inl (h, y)) = inl (signature p h d, (a, b, refl, x, y))
  three_case k a b (integer i) (inl p) (inl h) = inr (unexpected, no_bytes a b (integer i) k refl)
  three_case k a b (text d) (inl p) (inl h) = inr (unexpected, no_bytes a b (text d) k refl)
  three_case k a b (array ts) (inl p) (inl h) = inr (unexpected, no_bytes a b (array ts) k refl)
  three_case k a b (map_tree ps) (inl p) (inl h) = inr (unexpected, no_bytes a b (map_tree ps) k refl)
  three_case k a b (tag m t) (inl p) (inl h) = inr (unexpected, no_bytes a b (tag m t) k refl)
  three_case k a b (simple m) (inl p) (inl h) = inr (unexpected, no_bytes a b (simple m) k refl)
  three_case k a b (float f) (inl p) (inl h) = inr (unexpected, no_bytes a b (float f) k refl)

  items_case : (k : ℕ) (ts : Trees) → weight_all ts < w → LowAll ts → SignatureCase n (array ts) k
  items_case k no_trees l low = inr (unexpected, not_three no_trees k (λ e. omega (arith, e)))
  items_case k (one_more a no_trees) l low = inr (unexpected, not_three (one_more a no_trees) k (λ e. omega (arith, e)))
  items_case k (one_more a (one_more b no_trees)) l low = inr (unexpected, not_three (one_more a (one_more b no_trees)) k (λ e. omega (arith, e)))
  items_case k (one_more a (one_more b (one_more c no_trees))) l low =
      three_case k a b c (protected_case k a (omega (arith, l)) low.0) (lighter b k (omega (arith, l)) low.1.0)
  items_case k (one_more a (one_more b (one_more c (one_more d ts)))) l low =
      inr (unexpected, not_three (one_more a (one_more b (one_more c (one_more d ts)))) k (λ e. omega (arith, e)))

  pub signature_case : (k : ℕ) (t : Tree) → weight t < w → Low t → SignatureCase n t k
  signature_case k (array ts) l low = items_case k ts (omega (arith, l)) low
  signature_case k (bytes b) l low = inr (unexpected, no_array (bytes b) k refl)
  signature_case k (integer i) l low = inr (unexpected, no_array (integer i) k refl)
  signature_case k (text b) l low = inr (unexpected, no_array (text b) k refl)
  signature_case k (map_tree ps) l low = inr (unexpected, no_array (map_tree ps) k refl)
  signature_case k (tag m t) l low = inr (unexpected, no_array (tag m t) k refl)
  signature_case k (simple m) l low = inr (unexpected, no_array (simple m) k refl)
  signature_case k (float f) l low = inr (unexpected, no_array (float f) k refl)

  -- ---- signatures one after another
  pub record NoSignatureIn (k : ℕ) (ts : Trees) : Type 0 where
    pub front : List Tree
    pub after : List Tree
    pub item : Tree
    pub fault : CoseFault
    pub are : ts ≡ trees (front ++ item ∷ after)
    pub wrong : WrongSignature n item k fault

  pub signatures_case : (k : ℕ) (ts : Trees) → AllLighter w ts → ((ss : Signatures) × HasSignatures n ts ss k) ⊎ NoSignatureIn k ts
  signatures_case k no_trees a = inl (no_signatures, refl)
  signatures_case k (one_more t ts) a = go (signature_case k t a.0.0 a.0.1) (signatures_case k ts a.1)
    where
      go : SignatureCase n t k → ((ss : Signatures) × HasSignatures n ts ss k) ⊎ NoSignatureIn k ts → ((ss : Signatures) × HasSignatures n (one_more t ts) ss k) ⊎ NoSignatureIn k (one_more t ts)
      go (inr (e, x)) more = inr (record { front = []; after = list_of ts; item = t; fault = e; are = ap (one_more t) (list_trees ts); wrong = x })
      go (inl s) (inr x) = inr (record { front = t ∷ x.front; after = x.after; item = x.item; fault = x.fault; are = ap (one_more t) x.are; wrong = x.wrong })
      go (inl (s, x)) (inl (ss, y)) = inl (signature_more s ss, (t, ts, refl, x, y))

  -- ---- counter signatures
  abbrev SignedCase : ℕ → Tree → Type 0
  SignedCase k v = ((s : SignatureFields) × (ss : Signatures) × HasSigned n (Some v) (signature_more s ss) k) ⊎ ((e : CoseFault) × WrongSigned n v k e)

  bare_case : (k : ℕ) (ts : Trees) → IsBare ts → SignatureCase n (array ts) k → SignedCase k (array ts)
  bare_case k ts b (inl (s, x)) = inl (s, no_signatures, (ts, refl, inl (b, refl, x)))
  bare_case k ts b (inr (e, x)) = inr (e, in_bare ts k e b x)

  list_signed : (k : ℕ) (t : Tree) (ts : Trees) → IsList (one_more t ts) → SignatureCase n t k → ((ss : Signatures) × HasSignatures n ts ss k) ⊎ NoSignatureIn k ts → SignedCase k (array (one_more t ts))
  list_signed k t ts i (inl (s, x)) (inl (ss, y)) = inl (s, ss, (one_more t ts, refl, inr (i, (t, ts, refl, x, y))))
  list_signed k t ts i (inr (e, x)) more =
      let are : one_more t ts ≡ trees ([] ++ t ∷ list_of ts) = ap (one_more t) (list_trees ts) in
      inr (e, subst (λ z. WrongSigned n (array z) k e) (sym are) (in_list [] (list_of ts) t k e (subst IsList are i) x))
  list_signed k t ts i (inl s) (inr x) =
      let are : one_more t ts ≡ trees ((t ∷ x.front) ++ x.item ∷ x.after) = ap (one_more t) x.are in
      inr (x.fault, subst (λ z. WrongSigned n (array z) k x.fault) (sym are) (in_list (t ∷ x.front) x.after x.item k x.fault (subst IsList are i) x.wrong))

  signed_array : (k : ℕ) (ts : Trees) → weight (array ts) < w → LowAll ts → SignedCase k (array ts)
  signed_array k no_trees l low = inr (unexpected, no_first no_trees k tt)
  signed_array k (one_more (bytes b) ts) l low = bare_case k (one_more (bytes b) ts) (b, ts, refl) (signature_case k (array (one_more (bytes b) ts)) l low)
  signed_array k (one_more (array us) ts) l low =
      list_signed k (array us) ts (us, ts, refl) (signature_case k (array us) (omega (arith, l)) low.0) (signatures_case k ts (all_lighter w ts (omega (arith, l)) low.1))
  signed_array k (one_more (integer i) ts) l low = inr (unexpected, no_first (one_more (integer i) ts) k (refl, refl))
  signed_array k (one_more (text b) ts) l low = inr (unexpected, no_first (one_more (text b) ts) k (refl, refl))
  signed_array k (one_more (map_tree ps) ts) l low = inr (unexpected, no_first (one_more (map_tree ps) ts) k (refl, refl))
  signed_array k (one_more (tag m t) ts) l low = inr (unexpected, no_first (one_more (tag m t) ts) k (refl, refl))
  signed_array k (one_more (simple m) ts) l low = inr (unexpected, no_first (one_more (simple m) ts) k (refl, refl))
  signed_array k (one_more (float f) ts) l low = inr (unexpected, no_first (one_more (float f) ts) k (refl, refl))

  signed_case : (k : ℕ) (v : Tree) → weight v < w → Low v → SignedCase k v
  signed_case k (array ts) l low = signed_array k ts l low
  signed_case k (bytes b) l low = inr (unexpected, no_list (bytes b) k refl)
  signed_case k (integer i) l low = inr (unexpected, no_list (integer i) k refl)
  signed_case k (text b) l low = inr (unexpected, no_list (text b) k refl)
  signed_case k (map_tree ps) l low = inr (unexpected, no_list (map_tree ps) k refl)
  signed_case k (tag m t) l low = inr (unexpected, no_list (tag m t) k refl)
  signed_case k (simple m) l low = inr (unexpected, no_list (simple m) k refl)
  signed_case k (float f) l low = inr (unexpected, no_list (float f) k refl)

  -- ---- the entries of a map
  record More (k : ℕ) (es : List (LabelFields × Tree)) (l v : Tree) : Type 0 where
    label : LabelFields
    is : label_of l ≡ Some label
    plain : Plain
    signs : Signatures
    known : Known n (es ++ (label, v) ∷ []) plain signs k

  abbrev EntryCase : ℕ → List (LabelFields × Tree) → Tree → Tree → Type 0
  EntryCase k es l v = More k es l v ⊎ ((e : CoseFault) × WrongEntry n es l v k e)

  module _ (k : ℕ) (es : List (LabelFields × Tree)) (p : Plain) (ss : Signatures) (known : Known n es p ss k) (l v : Tree) (m : LabelFields) (is : label_of l ≡ Some m) (fresh : IsIn m es → ⊥) where
    filled_entry : is_at 7 m ≡ false → FillCase m v p → EntryCase k es l v
    filled_entry o (inr (e, x)) = inr (e, entry_filled n es l v k m p ss e known is fresh x)
    filled_entry o (inl (q, x)) = inl (record {
      label = m;
      is = is;
      plain = q;
      signs = ss;
      known = record {
        distinct = distinct_snoc es m v known.distinct fresh;
        plain = filled_plain es p q m v known.plain fresh x;
        signed = subst (λ z. HasSigned n z ss k) (sym (at_old 7 es m v o)) known.signed;
      };
    })

    signed_entry : is_at 7 m ≡ true → SignedCase k v → EntryCase k es l v
    signed_entry o (inr (e, x)) = inr (e, bad_signatures es l v k m e is fresh o x)
    signed_entry o (inl (s, us, x)) = inl (record {
      label = m;
      is = is;
      plain = p;
      signs = signature_more s us;
      known = record {
        distinct = distinct_snoc es m v known.distinct fresh;
        plain = subst (λ z. IsPlain (es ++ (z, v) ∷ []) p) (sym (is_at_is 7 m o)) (signed_plain es p v known.plain);
        signed = subst (λ z. HasSigned n z (signature_more s us) k) (sym (at_new 7 es m v o (at_none 7 es m o fresh))) x;
      };
    })

  entry_case : (k : ℕ) (es : List (LabelFields × Tree)) (p : Plain) (ss : Signatures) → Known n es p ss k → (l v : Tree) → Lighter w v → EntryCase k es l v
  entry_case k es p ss known l v a = by_label (label_case l)
    where
      by_place : (m : LabelFields) → label_of l ≡ Some m → (IsIn m es → ⊥) → (is_at 7 m ≡ true) ⊎ (is_at 7 m ≡ false) → EntryCase k es l v
      by_place m is fresh (inl o) = signed_entry k es p ss known l v m is fresh o (signed_case k v a.0 a.1)
      by_place m is fresh (inr o) = filled_entry k es p ss known l v m is fresh o (fill_case m v p o)

      by_fresh : (m : LabelFields) → label_of l ≡ Some m → IsIn m es ⊎ (IsIn m es → ⊥) → EntryCase k es l v
      by_fresh m is (inl i) = inr (duplicate_key, label_again es l v k m is i)
      by_fresh m is (inr f) = by_place m is f (bool_cases (is_at 7 m))

      by_label : ((m : LabelFields) × (label_of l ≡ Some m)) ⊎ ((e : CoseFault) × WrongLabel l e) → EntryCase k es l v
      by_label (inl (m, is)) = by_fresh m is (in_cases m es)
      by_label (inr (e, x)) = inr (e, bad_label es l v k e x)

  abbrev MapCase : ℕ → List (Tree × Tree) → Type 0
  MapCase k xs = ((es : List (LabelFields × Tree)) × (p : Plain) × (ss : Signatures) × (entries (pairs xs) ≡ Some es) × Known n es p ss k) ⊎ ((e : CoseFault) × WrongHeader n (map_tree (pairs xs)) k e)

  entries_case : (k : ℕ) (done more : List (Tree × Tree)) (es : List (LabelFields × Tree)) (p : Plain) (ss : Signatures) → entries (pairs done) ≡ Some es → Known n es p ss k → ValuesLighter w more → MapCase k (done ++ more)
  entries_case k done [] es p ss e known a = subst (MapCase k) (sym (append-nil done)) (inl (es, p, ss, e, known))
  entries_case k done (x ∷ more) es p ss e known a = by_entry (entry_case k es p ss known x.0 x.1 a.0)
      (λ m is q us known'. entries_case k (done ++ x ∷ []) more (es ++ (m, x.1) ∷ []) q us (entries_snoc done es x.0 x.1 m e is) known' a.1)
    where
      by_entry : EntryCase k es x.0 x.1
          → ((m : LabelFields) → label_of x.0 ≡ Some m → (q : Plain) (us : Signatures) → Known n (es ++ (m, x.1) ∷ []) q us k → MapCase k ((done ++ x ∷ []) ++ more)) → MapCase k (done ++ x ∷ more)
      by_entry (inr (f, y)) again = inr (f, at_entry done more x.0 x.1 es k f e y)
      by_entry (inl y) again = subst (MapCase k) (append_assoc done (x ∷ []) more) (again y.label y.is y.plain y.signs y.known)

  map_case : (k : ℕ) (ps : Pairs) → weight_pairs ps < w → LowPairs ps → HeaderCase n (map_tree ps) k
  map_case k ps l low = subst (λ z. HeaderCase n (map_tree z) k) (sym (entry_pairs ps))
      (go (entries_case k [] (entry_list ps) [] no_plain no_signatures refl (record { distinct = tt; plain = none_plain; signed = refl }) (values_lighter w ps l low)))
    where
      go : MapCase k (entry_list ps) → HeaderCase n (map_tree (pairs (entry_list ps))) k
      go (inl (es, p, ss, e, known)) = inl (header p ss, (pairs (entry_list ps), es, refl, e, known.distinct, known.plain, known.signed))
      go (inr x) = inr x

  header_step : (k : ℕ) (t : Tree) → weight t ≤ w → Low t → HeaderCase n t k
  header_step k (map_tree ps) l low = map_case k ps (omega (arith, l)) low
  header_step k (array ts) l low = inr (unexpected, no_map (array ts) k refl)
  header_step k (bytes b) l low = inr (unexpected, no_map (bytes b) k refl)
  header_step k (integer i) l low = inr (unexpected, no_map (integer i) k refl)
  header_step k (text b) l low = inr (unexpected, no_map (text b) k refl)
  header_step k (tag m t) l low = inr (unexpected, no_map (tag m t) k refl)
  header_step k (simple m) l low = inr (unexpected, no_map (simple m) k refl)
  header_step k (float f) l low = inr (unexpected, no_map (float f) k refl)

header_below : (n w : ℕ) (t : Tree) (k : ℕ) → weight t < w → Low t → HeaderCase n t k
header_below n zero t k l low = absurd (omega (arith, l))
header_below n (suc w) t k l low = header_step n w (λ u j l' low'. header_below n w u j l' low') k t (omega (arith, l)) low

pub header_case : (n : ℕ) (t : Tree) (k : ℕ) → Low t → HeaderCase n t k
header_case n t k low = header_below n (suc (weight t)) t k (omega arith) low

pub one_protected_case : (n : ℕ) (t : Tree) (k : ℕ) → Low t → ProtectedCase n t k
one_protected_case n t k low = protected_case n (suc (weight t)) (λ u j l low'. header_case n u j low') k t (omega arith) low
