-- A value with a fault has no fields.
use Rattle.std.proofs.Common.{◌≡◌, ◌≢◌, ℕ, ◌-◌, ◌<◌, ◌⊎◌, pos, inl, inr, List, [], ◌∷◌, ◌++◌, length, true, false, Option, Some, None, option_map, option_and_then, refl, sym, ap, subst, ◌∙◌, arith, append-nil}
use Rattle.std.proofs.lemmas.List.{append_cancel_left}
use Rattle.cose_iana.specs.Registry.{is_private_use}
use Rattle.ciborium_value.specs.Tree.{Tree, integer, bytes, text, array, map as map_tree, tag, simple, float, Trees, no_trees, one_more, tree_count, is_bytes}
use Rattle.ciborium_value.specs.View.{trees, pairs}
use Rattle.ciborium.specs.Front.{Reads}
use Rattle.ciborium.proofs.Excludes.{excludes}
use Rattle.coset_labels.specs.Fields.{LabelFields, number, Named, named}
use Rattle.coset_labels.specs.Faults.{CoseFault}
use Rattle.ciborium_value.specs.Kinds.{is_map, is_array}
use Rattle.coset_labels.specs.Kinds.{some_bytes}
use Rattle.coset_labels.specs.Labels.{label_of}
use Rattle.coset_labels.specs.Reading.{NotReadable, damaged, goes_on}
use Rattle.coset_headers.specs.Fields.{Plain, HeaderFields, header, ProtectedFields, protected, SignatureFields, signature, Signatures, no_signatures, signature_more, no_header}
use Rattle.coset_headers.specs.Headers.{is_at, alg_of, parameter_of, parameters_of, crit_of, IsContentType, HasContentType, entries, at, others, Distinct, IsField, IsPlain, IsBare, IsList, list_of_three, HasHeader, HasProtected, HasSignature, HasSigned, HasSignatures}
use Rattle.coset_headers.specs.Wrong.{WrongCrit, no_crit_list, empty_crit, bad_crit, WrongContentType, no_content_type, empty_text, white_space, no_one_slash, WrongField, wrong_alg, wrong_crit, wrong_content_type, wrong_key_id, wrong_iv, wrong_partial_iv, NoSignature, WrongHeader, no_map, at_entry, WrongEntry, bad_label, label_again, bad_field, two_ivs, bad_signatures, WrongSigned, no_list, no_first, in_bare, in_list, WrongSignature, no_array, not_three, in_protected, in_unprotected, no_bytes, WrongProtected, no_string, too_deep, unreadable, inside}
use Rattle.coset_labels.specs.Facts.Entries.{label_only}
use Rattle.coset_labels.specs.Facts.Wrong.{Splits, splits, at_front, snoc_front, again_not, no_label, no_named, no_registered, no_string_there}
use Rattle.coset_labels.specs.Facts.Wrong as wrong
use Rattle.coset_headers.specs.Written.{bytes_value}
use Rattle.coset_headers.proofs.Entered.{FieldsOf, fields_of, values_at}
use Rattle.coset_headers.proofs.Fielded.{bytes_are}
use Rattle.coset_headers.proofs.Unique.{reads_once}

no_more : (o : Option (List Named)) (p : Option Named) → p ≡ None → option_and_then (λ n. option_map (λ ns. n ∷ ns) o) p ≡ None
no_more o p e = ap (λ q. option_and_then (λ n. option_map (λ ns. n ∷ ns) o) q) e

no_rest : (o : Option (List Named)) (p : Option Named) → o ≡ None → option_and_then (λ n. option_map (λ ns. n ∷ ns) o) p ≡ None
no_rest o None e = refl
no_rest o (Some n) e = ap (option_map (λ ns. n ∷ ns)) e

no_parameters : (before after : List Tree) (t : Tree) → parameter_of t ≡ None → parameters_of (trees (before ++ t ∷ after)) ≡ None
no_parameters [] after t e = no_more (parameters_of (trees after)) (parameter_of t) e
no_parameters (b ∷ bs) after t e = no_rest (parameters_of (trees (bs ++ t ∷ after))) (parameter_of b) (no_parameters bs after t e)

crit_list : (ts : Trees) → parameters_of ts ≡ None → crit_of (array ts) ≡ None
crit_list no_trees e = refl
crit_list (one_more t ts) e = e

no_crit_kind : (v : Tree) → is_array v ≡ false → crit_of v ≡ None
no_crit_kind (array ts) e = let h : true ≡ false = e in cc
no_crit_kind (integer i) e = refl
no_crit_kind (bytes b) e = refl
no_crit_kind (text b) e = refl
no_crit_kind (map_tree ps) e = refl
no_crit_kind (tag n t) e = refl
no_crit_kind (simple n) e = refl
no_crit_kind (float f) e = refl

no_crit : (v : Tree) (e : CoseFault) → WrongCrit v e → crit_of v ≡ None
no_crit v e (no_crit_list _ k) = no_crit_kind v k
no_crit v e empty_crit = refl
no_crit v e (bad_crit before after t _ w) = crit_list (trees (before ++ t ∷ after)) (no_parameters before after t (no_named _ is_private_use t e w))

text_content : (b : List ℕ) (c : Option Named) → HasContentType (Some (text b)) c → IsContentType (named b)
text_content b c h = let e : Some (named b) ≡ Some h.0 = h.1 in let s : h.0 ≡ named b = cc in subst IsContentType s h.2

no_type : (v : Tree) (e : CoseFault) (c : Option Named) → WrongContentType v e → HasContentType (Some v) c → ⊥
no_type v e c (no_content_type _ _ w) h = let x : None ≡ Some h.0 = sym (no_registered _ v e w) ∙ h.1 in cc
no_type v e c empty_text h = (text_content [] c h).0 refl
no_type v e c (white_space b w) h = w (text_content b c h).1
no_type v e c (no_one_slash b w) h = w (text_content b c h).2

-- ---- the field at a number whose value has a fault
module _ (es all : List (LabelFields × Tree)) (l v : Tree) (s : Splits label_of l v es all) (d : Distinct all) where
  there_at : (n : ℕ) (m : LabelFields) → label_of l ≡ Some m → is_at n m ≡ true → at n all ≡ Some v
  there_at n m q t = wrong.there_at label_of es all l v s d (is_at n) m q t (label_only n m t)

  field_not : {A : Type 0} (f : Tree → Option A) (absent : A) (n : ℕ) (m : LabelFields) (x : A) → label_of l ≡ Some m → is_at n m ≡ true → IsField f absent (at n all) x → f v ≡ None → ⊥
  field_not f absent n m x q t = wrong.field_not label_of es all l v s d f absent (is_at n) m x q t (label_only n m t)

  value_not : (m : LabelFields) (e : CoseFault) (p : Plain) → label_of l ≡ Some m → WrongField v m e → FieldsOf (values_at 6 1 all) (others all) p → ⊥
  value_not m e p q (wrong_alg _ w) a = field_not alg_of None 1 (number (pos 1)) _ q refl a.0 (ap (option_map Some) (no_named _ is_private_use v e w))
  value_not m e p q (wrong_crit _ w) a = field_not crit_of [] 2 (number (pos 2)) _ q refl a.1 (no_crit v e w)
  value_not m e p q (wrong_content_type _ w) a = no_type v e p.content_type w (subst (λ o. HasContentType o p.content_type) (there_at 3 (number (pos 3)) q refl) a.2)
  value_not m e p q (wrong_key_id _ w) a = field_not some_bytes [] 4 (number (pos 4)) _ q refl a.3 (no_string_there v e w)
  value_not m e p q (wrong_iv _ w) a = field_not some_bytes [] 5 (number (pos 5)) _ q refl a.4 (no_string_there v e w)
  value_not m e p q (wrong_partial_iv _ w) a = field_not some_bytes [] 6 (number (pos 6)) _ q refl a.5 (no_string_there v e w)

some_full : (x : List ℕ) (t : Tree) → x ≡ [] → bytes_value x ≡ Some t → ⊥
some_full x t q e = let h : None ≡ Some t = sym (ap bytes_value q) ∙ e in cc

one_only : {A B : Type 0} → A ⊎ B → (A → ⊥) → (B → ⊥) → ⊥
one_only (inl a) f g = f a
one_only (inr b) f g = g b

ivs_not : (es all : List (LabelFields × Tree)) (l v b c : Tree) (m : LabelFields) (p : Plain) → Splits label_of l v es all → label_of l ≡ Some m → at 5 (es ++ (m, v) ∷ []) ≡ Some b → at 6 (es ++ (m, v) ∷ []) ≡ Some c → IsPlain all p → ⊥
ivs_not es all l v b c m p s q x y a =
    let both : Some s.key ≡ Some m = sym s.is ∙ q in
    let same : s.key ≡ m = cc in
    let parts : (es ++ (m, v) ∷ []) ++ s.behind ≡ all = sym (snoc_front es s.behind (m, v)) ∙ ap (λ z. es ++ (z, v) ∷ s.behind) (sym same) ∙ sym s.whole in
    let five : at 5 all ≡ Some b = ap (at 5) (sym parts) ∙ at_front (is_at 5) (es ++ (m, v) ∷ []) s.behind b x in
    let six : at 6 all ≡ Some c = ap (at 6) (sym parts) ∙ at_front (is_at 6) (es ++ (m, v) ∷ []) s.behind c y in
    let u = fields_of all p a in
    one_only u.6 (λ e. some_full _ b e (bytes_are (at 5 all) _ u.4 ∙ five)) (λ e. some_full _ c e (bytes_are (at 6 all) _ u.5 ∙ six))

-- ---- bytes that are no item, and lists
pub unreadable_not : (n : ℕ) (b : List ℕ) (e : CoseFault) (v : Tree) → NotReadable b n e → Reads b n v → ⊥
unreadable_not n b e v (damaged f d) r = excludes (length b) b n f d v [] (record { spelling = b; whole = sym (append-nil b); reads = r })
unreadable_not n b e v (goes_on w rest f m) r =
    let o = reads_once f.spelling b rest [] n w v f.reads r (sym f.whole ∙ sym (append-nil b)) in
    m (append_cancel_left b rest [] (ap (λ z. z ++ rest) (sym o.1) ∙ sym f.whole ∙ sym (append-nil b)))

inside_by : (n k : ℕ) (b : List ℕ) (h : HeaderFields) (P : Type 0) → b ≢ [] → ((v : Tree) → Reads b n v → HasHeader n v h k → P) → (((b ≡ []) × (h ≡ no_header)) ⊎ ((b ≢ []) × ((v : Tree) × Reads b n v × HasHeader n v h k))) → P
inside_by n k b h P m f (inl x) = absurd (m x.0)
inside_by n k b h P m f (inr (y, (v, r, z))) = f v r z

bare_no_list : (ts : Trees) → IsBare ts → IsList ts → ⊥
bare_no_list ts a b = let e : one_more (bytes a.0) a.1 ≡ one_more (array b.0) b.1 = sym a.2 ∙ b.2 in cc

first_not : (ts us : Trees) → ts ≡ us → NoSignature ts → IsBare us → ⊥
first_not no_trees us e n b = let h : no_trees ≡ one_more (bytes b.0) b.1 = e ∙ b.2 in cc
first_not (one_more t ts) us e n b = let h : one_more t ts ≡ one_more (bytes b.0) b.1 = e ∙ b.2 in let s : t ≡ bytes b.0 = cc in let x : true ≡ false = sym (ap is_bytes s) ∙ n.0 in cc

first_not_list : (ts us : Trees) → ts ≡ us → NoSignature ts → IsList us → ⊥
first_not_list no_trees us e n b = let h : no_trees ≡ one_more (array b.0) b.1 = e ∙ b.2 in cc
first_not_list (one_more t ts) us e n b = let h : one_more t ts ≡ one_more (array b.0) b.1 = e ∙ b.2 in let s : t ≡ array b.0 = cc in let x : true ≡ false = sym (ap is_array s) ∙ n.1 in cc

-- each of a list of signatures has fields
sigs_at : (n k : ℕ) (before after : List Tree) (t : Tree) (ss : Signatures) → HasSignatures n (trees (before ++ t ∷ after)) ss k → (s : SignatureFields) × HasSignature n t s k
sigs_at n k [] after t no_signatures w = let e : one_more t (trees after) ≡ no_trees = w in cc
sigs_at n k [] after t (signature_more s ss) w = let e : one_more t (trees after) ≡ one_more w.0 w.1 = w.2 in let x : w.0 ≡ t = cc in (s, subst (λ z. HasSignature n z s k) x w.3)
sigs_at n k (b ∷ bs) after t no_signatures w = let e : one_more b (trees (bs ++ t ∷ after)) ≡ no_trees = w in cc
sigs_at n k (b ∷ bs) after t (signature_more s ss) w =
    let e : one_more b (trees (bs ++ t ∷ after)) ≡ one_more w.0 w.1 = w.2 in
    let x : w.1 ≡ trees (bs ++ t ∷ after) = cc in
    sigs_at n k bs after t ss (subst (λ z. HasSignatures n z ss k) x w.4)

-- what counter signatures are: one by itself or a list
record Signs (n : ℕ) (t : Tree) (k : ℕ) : Type 0 where
  list : Trees
  is : t ≡ array list
  kind : (IsBare list × ((s : SignatureFields) × HasSignature n (array list) s k)) ⊎ (IsList list × ((ss : Signatures) × HasSignatures n list ss k))

signs_by : (n : ℕ) (t : Tree) (ss : Signatures) (k : ℕ) → HasSigned n (Some t) ss k → Signs n t k
signs_by n t no_signatures k w = let e : Some t ≡ None = w in cc
signs_by n t (signature_more s ss) k (ts, q, inl (b, r, w)) = let e : Some t ≡ Some (array ts) = q in record { list = ts; is = cc; kind = inl (b, (s, w)) }
signs_by n t (signature_more s ss) k (ts, q, inr (b, w)) = let e : Some t ≡ Some (array ts) = q in record { list = ts; is = cc; kind = inr (b, (signature_more s ss, w)) }

mutual
  pub header_not : (n : ℕ) (t : Tree) (k : ℕ) (e : CoseFault) → WrongHeader n t k e → (h : HeaderFields) → HasHeader n t h k → ⊥
  header_not n t k e (no_map _ _ x) (header p ss) a = let c : true ≡ false = sym (ap is_map a.2) ∙ x in cc
  header_not n t k e (at_entry before after l v es _ _ r w) (header p ss) a =
      let maps : map_tree (pairs (before ++ (l, v) ∷ after)) ≡ map_tree a.0 = a.2 in
      let same : pairs (before ++ (l, v) ∷ after) ≡ a.0 = cc in
      entry_not n es l v k e w a.1 p ss (splits label_of before after l v es a.1 r (ap entries same ∙ a.3)) a.4 a.5 a.6

  entry_not : (n : ℕ) (es : List (LabelFields × Tree)) (l v : Tree) (k : ℕ) (e : CoseFault) → WrongEntry n es l v k e
      → (all : List (LabelFields × Tree)) (p : Plain) (ss : Signatures) → Splits label_of l v es all → Distinct all → IsPlain all p → HasSigned n (at 7 all) ss k → ⊥
  entry_not n es l v k e (bad_label _ _ _ _ _ w) all p ss s d a g = let x : Some s.key ≡ None = sym s.is ∙ no_label l e w in cc
  entry_not n es l v k e (label_again _ _ _ _ m q i) all p ss s d a g = again_not label_of es all l v s d m q i
  entry_not n es l v k e (bad_field _ _ _ _ m _ q _ w) all p ss s d a g = value_not es all l v s d m e p q w (fields_of all p a)
  entry_not n es l v k e (two_ivs _ _ _ b c _ m q _ x y) all p ss s d a g = ivs_not es all l v b c m p s q x y a
  entry_not n es l v k e (bad_signatures _ _ _ _ m _ q _ r w) all p ss s d a g =
      signed_not n v k e w (signs_by n v ss k (subst (λ o. HasSigned n o ss k) (there_at es all l v s d 7 m q r) g))

  signed_not : (n : ℕ) (t : Tree) (k : ℕ) (e : CoseFault) → WrongSigned n t k e → Signs n t k → ⊥
  signed_not n t k e (no_list _ _ x) a = let c : true ≡ false = sym (ap is_array a.is) ∙ x in cc
  signed_not n t k e (no_first ts _ x) a =
      let h : array ts ≡ array a.list = a.is in let q : ts ≡ a.list = cc in
      one_only a.kind (λ y. first_not ts a.list q x y.0) (λ y. first_not_list ts a.list q x y.0)
  signed_not n t k e (in_bare ts _ _ b w) a =
      let h : array ts ≡ array a.list = a.is in let q : a.list ≡ ts = cc in
      one_only a.kind (λ y. sig_not n (array ts) k e w y.1.0 (subst (λ z. HasSignature n (array z) y.1.0 k) q y.1.1)) (λ y. bare_no_list ts b (subst IsList q y.0))
  signed_not n t k e (in_list before after u _ _ b w) a =
      let h : array (trees (before ++ u ∷ after)) ≡ array a.list = a.is in let q : a.list ≡ trees (before ++ u ∷ after) = cc in
      one_only a.kind (λ y. bare_no_list (trees (before ++ u ∷ after)) (subst IsBare q y.0) b)
      (λ y. let z = sigs_at n k before after u y.1.0 (subst (λ z. HasSignatures n z y.1.0 k) q y.1.1) in sig_not n u k e w z.0 z.1)

  pub sig_not : (n : ℕ) (t : Tree) (k : ℕ) (e : CoseFault) → WrongSignature n t k e → (s : SignatureFields) → HasSignature n t s k → ⊥
  sig_not n t k e (no_array _ _ x) (signature p h c) a = let d : true ≡ false = sym (ap is_array a.2) ∙ x in cc
  sig_not n t k e (not_three ts _ x) (signature p h c) a =
      let q : array ts ≡ array (list_of_three a.0 a.1 (bytes c)) = a.2 in let r : ts ≡ list_of_three a.0 a.1 (bytes c) = cc in x (ap tree_count r)
  sig_not n t k e (in_protected x y z _ _ w) (signature p h c) a =
      let q : array (list_of_three x y z) ≡ array (list_of_three a.0 a.1 (bytes c)) = a.2 in let r : a.0 ≡ x = cc in
      prot_not n x k e w p (subst (λ u. HasProtected n u p k) r a.3)
  sig_not n t k e (in_unprotected x y z _ _ w) (signature p h c) a =
      let q : array (list_of_three x y z) ≡ array (list_of_three a.0 a.1 (bytes c)) = a.2 in let r : a.1 ≡ y = cc in
      header_not n y k e w h (subst (λ u. HasHeader n u h k) r a.4)
  sig_not n t k e (no_bytes x y z _ w) (signature p h c) a =
      let q : array (list_of_three x y z) ≡ array (list_of_three a.0 a.1 (bytes c)) = a.2 in let r : z ≡ bytes c = cc in
      let d : true ≡ false = sym (ap is_bytes r) ∙ w in cc

  pub prot_not : (n : ℕ) (t : Tree) (k : ℕ) (e : CoseFault) → WrongProtected n t k e → (p : ProtectedFields) → HasProtected n t p k → ⊥
  prot_not n t k e (no_string _ _ x) (protected o h) a = let d : true ≡ false = sym (ap is_bytes a.1) ∙ x in cc
  prot_not n t k e (too_deep b) (protected o h) a = let z : 0 < 0 = a.3 in absurd (omega (arith, z))
  prot_not n t k e (unreadable b _ _ z m w) (protected o h) a =
      let q : bytes b ≡ bytes a.0 = a.1 in let r : b ≡ a.0 = cc in
      inside_by n (k - 1) a.0 h ⊥ (λ y. m (r ∙ y)) (λ v u y. unreadable_not n b e v w (subst (λ c. Reads c n v) (sym r) u)) a.4
  prot_not n t k e (inside b v _ _ z m u w) (protected o h) a =
      let q : bytes b ≡ bytes a.0 = a.1 in let r : b ≡ a.0 = cc in
      inside_by n (k - 1) a.0 h ⊥ (λ y. m (r ∙ y))
      (λ x y g. header_not n v (k - 1) e w h (subst (λ c. HasHeader n c h (k - 1)) (reads_once a.0 b [] [] n x v y u (ap (λ c. c ++ []) (sym r))).0 g)) a.4
