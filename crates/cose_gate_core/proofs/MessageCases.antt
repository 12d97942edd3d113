-- A value has the fields of a message of each kind, or a fault as one.
use Rattle.std.proofs.Common.{◌≡◌, ◌≢◌, ℕ, zero, suc, ◌<◌, ◌≤◌, ◌⊎◌, inl, inr, List, [], ◌∷◌, ◌++◌, false, Option, Some, None, refl, sym, ap, subst, arith}
use Rattle.std.proofs.lemmas.Bool.{cases_eq}
use Rattle.ciborium_value.specs.Tree.{Tree, integer, bytes, text, array, map as map_tree, tag, simple, float, Trees, no_trees, one_more, tree_count, is_bytes}
use Rattle.ciborium_value.specs.View.{trees}
use Rattle.coset_labels.specs.Faults.{CoseFault, unexpected}
use Rattle.ciborium_value.specs.Kinds.{is_array}
use Rattle.coset_headers.specs.Fields.{HeaderFields, ProtectedFields, SignatureFields, signatures, Signatures, no_signatures, signature_more}
use Rattle.coset_headers.specs.Headers.{HasSignatures}
use Rattle.coset_headers.specs.Weight.{weight, weight_all}
use Rattle.coset_maced.specs.PartShapes.{parts, HasParts, HasWhole}
use Rattle.coset_maced.specs.WrongParts.{WrongParts, in_protected, in_unprotected, in_content, WrongWhole}
use Rattle.coset_maced.specs.WrongParts as whole
use Rattle.coset_maced.specs.RecipientFields.{RecipientFields, recipient, RecipientsFields, no_recipients, recipient_more}
use Rattle.coset_maced.specs.RecipientShapes.{three_or_four, HasRecipient, HasRecipients, HasList}
use Rattle.coset_maced.specs.WrongRecipient.{WrongRecipient, no_array, not_three_or_four, in_parts, in_fourth, WrongList, no_list, in_list}
use Rattle.coset_signed.specs.Fields.{Sign1Fields, SignFields}
use Rattle.coset_signed.specs.Shapes.{IsSignatureList, HasSign1, HasSign}
use Rattle.coset_signed.specs.Wrong.{IsNoBytes, whatever, WrongSignatureList, WrongSign1, WrongSign}
use Rattle.coset_signed.specs.Wrong.{no_list as no_signature_list, in_list as in_signature_list}
use Rattle.cose_gate_core.proofs.Lows.{Low, LowAll}
use Rattle.cose_gate_core.proofs.FieldCases.{list_of, list_trees}
use Rattle.cose_gate_core.proofs.HeaderCases.{HeaderCase, ProtectedCase, AllLighter, all_lighter, header_case, one_protected_case, NoSignatureIn, signatures_case}

-- ---- the parts
abbrev pub PartsCase : ℕ → Tree → Tree → Tree → ℕ → Type 0
PartsCase n x y z k = ((p : ProtectedFields) × (u : HeaderFields) × (c : Option (List ℕ)) × HasParts n x y z (parts p u c) k) ⊎ ((e : CoseFault) × WrongParts n x y z k e)

parts_of : (n k : ℕ) (x y z : Tree) → ProtectedCase n x k → HeaderCase n y k → PartsCase n x y z k
parts_of n k x y z (inr (e, w)) h = inr (e, in_protected e w)
parts_of n k x y z (inl p) (inr (e, w)) = inr (e, in_unprotected e w)
parts_of n k x y (bytes b) (inl (p, a)) (inl (u, h)) = inl (p, u, Some b, record { protected = a; unprotected = h; content = refl })
parts_of n k x y (simple m) (inl (p, a)) (inl (u, h)) = by_null (cases_eq m 22)
  where
    by_null : (m ≡ 22) ⊎ (m ≡ 22 → ⊥) → PartsCase n x y (simple m) k
    by_null (inl e) = inl (p, u, None, record { protected = a; unprotected = h; content = ap simple e })
    by_null (inr f) = inr (unexpected, in_content refl (λ e. f (let q : simple m ≡ simple 22 = e in cc)))
parts_of n k x y (integer i) (inl p) (inl u) = inr (unexpected, in_content refl (λ e. let q : integer i ≡ simple 22 = e in cc))
parts_of n k x y (text b) (inl p) (inl u) = inr (unexpected, in_content refl (λ e. let q : text b ≡ simple 22 = e in cc))
parts_of n k x y (array ts) (inl p) (inl u) = inr (unexpected, in_content refl (λ e. let q : array ts ≡ simple 22 = e in cc))
parts_of n k x y (map_tree ps) (inl p) (inl u) = inr (unexpected, in_content refl (λ e. let q : map_tree ps ≡ simple 22 = e in cc))
parts_of n k x y (tag m t) (inl p) (inl u) = inr (unexpected, in_content refl (λ e. let q : tag m t ≡ simple 22 = e in cc))
parts_of n k x y (float f) (inl p) (inl u) = inr (unexpected, in_content refl (λ e. let q : float f ≡ simple 22 = e in cc))

pub parts_case : (n k : ℕ) (x y z : Tree) → Low x → Low y → PartsCase n x y z k
parts_case n k x y z a b = parts_of n k x y z (one_protected_case n x k a) (header_case n y k b)

-- ---- byte strings
abbrev pub StringCase : Tree → Type 0
StringCase t = ((b : List ℕ) × (t ≡ bytes b)) ⊎ (is_bytes t ≡ false)

pub string_case : (t : Tree) → StringCase t
string_case (bytes b) = inl (b, refl)
string_case (integer i) = inr refl
string_case (text b) = inr refl
string_case (array ts) = inr refl
string_case (map_tree ps) = inr refl
string_case (tag n t) = inr refl
string_case (simple n) = inr refl
string_case (float f) = inr refl

-- ---- recipients
abbrev pub RecipientCase : ℕ → Tree → ℕ → Type 0
RecipientCase n t k = ((r : RecipientFields) × HasRecipient n t r k) ⊎ ((e : CoseFault) × WrongRecipient n t k e)

abbrev pub ListCase : ℕ → Tree → ℕ → Type 0
ListCase n t k = ((rs : RecipientsFields) × HasList n t rs k) ⊎ ((e : CoseFault) × WrongList n t k e)

module _ (n k w : ℕ) (lighter : (u : Tree) → weight u < w → Low u → RecipientCase n u k) where
  record NoRecipientIn (ts : Trees) : Type 0 where
    front : List Tree
    after : List Tree
    item : Tree
    fault : CoseFault
    are : ts ≡ trees (front ++ item ∷ after)
    wrong : WrongRecipient n item k fault

  recipients_case : (ts : Trees) → AllLighter w ts → ((rs : RecipientsFields) × HasRecipients n ts rs k) ⊎ NoRecipientIn ts
  recipients_case no_trees a = inl (no_recipients, refl)
  recipients_case (one_more t ts) a = go (lighter t a.0.0 a.0.1) (recipients_case ts a.1)
    where
      go : RecipientCase n t k → ((rs : RecipientsFields) × HasRecipients n ts rs k) ⊎ NoRecipientIn ts → ((rs : RecipientsFields) × HasRecipients n (one_more t ts) rs k) ⊎ NoRecipientIn (one_more t ts)
      go (inr (e, x)) more = inr (record { front = []; after = list_of ts; item = t; fault = e; are = ap (one_more t) (list_trees ts); wrong = x })
      go (inl s) (inr x) = inr (record { front = t ∷ x.front; after = x.after; item = x.item; fault = x.fault; are = ap (one_more t) x.are; wrong = x.wrong })
      go (inl (r, x)) (inl (rs, y)) = inl (recipient_more r rs, (t, ts, refl, x, y))

  list_step : (t : Tree) → weight t ≤ w → Low t → ListCase n t k
  list_step (array ts) l low = go (recipients_case ts (all_lighter w ts (omega (arith, l)) low))
    where
      go : ((rs : RecipientsFields) × HasRecipients n ts rs k) ⊎ NoRecipientIn ts → ListCase n (array ts) k
      go (inl (rs, x)) = inl (rs, (ts, refl, x))
      go (inr x) = inr (x.fault, subst (λ z. WrongList n (array z) k x.fault) (sym x.are) (in_list x.front x.after x.item k x.fault x.wrong))
  list_step (bytes b) l low = inr (unexpected, no_list (bytes b) k refl)
  list_step (integer i) l low = inr (unexpected, no_list (integer i) k refl)
  list_step (text b) l low = inr (unexpected, no_list (text b) k refl)
  list_step (map_tree ps) l low = inr (unexpected, no_list (map_tree ps) k refl)
  list_step (tag m t) l low = inr (unexpected, no_list (tag m t) k refl)
  list_step (simple m) l low = inr (unexpected, no_list (simple m) k refl)
  list_step (float f) l low = inr (unexpected, no_list (float f) k refl)

  three_step : (a b c : Tree) → PartsCase n a b c k → RecipientCase n (array (three_or_four a b c None)) k
  three_step a b c (inl (p, u, d, h)) = inl (recipient p u d no_recipients, (a, b, c, None, refl, h, inl (refl, refl)))
  three_step a b c (inr (e, x)) = inr (e, in_parts a b c None k e x)

  four_step : (a b c d : Tree) → PartsCase n a b c k → ListCase n d k → RecipientCase n (array (three_or_four a b c (Some d))) k
  four_step a b c d (inr (e, x)) l = inr (e, in_parts a b c (Some d) k e x)
  four_step a b c d (inl h) (inr (e, x)) = inr (e, in_fourth a b c d k e x)
  four_step a b c d (inl (p, u, m, h)) (inl (rs, (ts, e, x))) = inl (recipient p u m rs, (a, b, c, Some d, refl, h, inr (ts, ap Some e, x)))

  recipient_items : (ts : Trees) → weight_all ts < w → LowAll ts → RecipientCase n (array ts) k
  recipient_items no_trees l low = inr (unexpected, not_three_or_four no_trees k (λ e. omega (arith, e)) (λ e. omega (arith, e)))
  recipient_items (one_more a no_trees) l low = inr (unexpected, not_three_or_four (one_more a no_trees) k (λ e. omega (arith, e)) (λ e. omega (arith, e)))
  recipient_items (one_more a (one_more b no_trees)) l low =
      inr (unexpected, not_three_or_four (one_more a (one_more b no_trees)) k (λ e. omega (arith, e)) (λ e. omega (arith, e)))
  recipient_items (one_more a (one_more b (one_more c no_trees))) l low = three_step a b c (parts_case n k a b c low.0 low.1.0)
  recipient_items (one_more a (one_more b (one_more c (one_more d no_trees)))) l low =
      four_step a b c d (parts_case n k a b c low.0 low.1.0) (list_step d (omega (arith, l)) low.1.1.1.0)
  recipient_items (one_more a (one_more b (one_more c (one_more d (one_more f ts))))) l low =
      inr (unexpected, not_three_or_four (one_more a (one_more b (one_more c (one_more d (one_more f ts))))) k (λ e. omega (arith, e)) (λ e. omega (arith, e)))

  recipient_step : (t : Tree) → weight t ≤ w → Low t → RecipientCase n t k
  recipient_step (array ts) l low = recipient_items ts (omega (arith, l)) low
  recipient_step (bytes b) l low = inr (unexpected, no_array (bytes b) k refl)
  recipient_step (integer i) l low = inr (unexpected, no_array (integer i) k refl)
  recipient_step (text b) l low = inr (unexpected, no_array (text b) k refl)
  recipient_step (map_tree ps) l low = inr (unexpected, no_array (map_tree ps) k refl)
  recipient_step (tag m t) l low = inr (unexpected, no_array (tag m t) k refl)
  recipient_step (simple m) l low = inr (unexpected, no_array (simple m) k refl)
  recipient_step (float f) l low = inr (unexpected, no_array (float f) k refl)

recipient_below : (n k w : ℕ) (t : Tree) → weight t < w → Low t → RecipientCase n t k
recipient_below n k zero t l low = absurd (omega (arith, l))
recipient_below n k (suc w) t l low = recipient_step n k w (λ u l' low'. recipient_below n k w u l' low') t (omega (arith, l)) low

pub recipient_case : (n k : ℕ) (t : Tree) → Low t → RecipientCase n t k
recipient_case n k t low = recipient_below n k (suc (weight t)) t (omega arith) low

pub list_case : (n k : ℕ) (t : Tree) → Low t → ListCase n t k
list_case n k t low = list_step n k (weight t) (λ u l low'. recipient_case n k u low') t (omega arith) low

-- ---- signed messages
module _ (n k : ℕ) (F : Type 0) (Has : F → Tree → Type 0) (Wrong : Tree → CoseFault → Type 0) (last : (d : Tree) → Low d → ((f : F) × Has f d) ⊎ ((e : CoseFault) × Wrong d e)) where
  abbrev FourCase : Tree → Type 0
  FourCase t = ((p : ProtectedFields) × (u : HeaderFields) × (c : Option (List ℕ)) × (f : F) × HasWhole n t (parts p u c) (Has f ∷ []) k) ⊎ ((e : CoseFault) × WrongWhole n t (Wrong ∷ []) k e)

  four_of : (a b c d : Tree) → PartsCase n a b c k → ((f : F) × Has f d) ⊎ ((e : CoseFault) × Wrong d e) → FourCase (array (trees (a ∷ b ∷ c ∷ d ∷ [])))
  four_of a b c d (inr (e, x)) l = inr (e, whole.in_parts a b c (d ∷ []) e refl refl x)
  four_of a b c d (inl h) (inr (e, x)) = inr (e, whole.in_lasts a b c (d ∷ []) e refl refl (inl x))
  four_of a b c d (inl (p, u, m, h)) (inl (f, x)) = inl (p, u, m, f, record { first = a; second = b; third = c; lasts = d ∷ []; is = refl; parts = h; hold = (x, tt) })

  no_four : (t : Tree) → is_array t ≡ false → FourCase t
  no_four t x = inr (unexpected, whole.no_array x)

  not_four : (ts : Trees) → tree_count ts ≢ 4 → FourCase (array ts)
  not_four ts x = inr (unexpected, whole.not_as_many ts refl x)

  four_trees : (ts : Trees) → LowAll ts → FourCase (array ts)
  four_trees no_trees low = not_four no_trees (λ e. omega (arith, e))
  four_trees (one_more a no_trees) low = not_four (one_more a no_trees) (λ e. omega (arith, e))
  four_trees (one_more a (one_more b no_trees)) low = not_four (one_more a (one_more b no_trees)) (λ e. omega (arith, e))
  four_trees (one_more a (one_more b (one_more c no_trees))) low = not_four (one_more a (one_more b (one_more c no_trees))) (λ e. omega (arith, e))
  four_trees (one_more a (one_more b (one_more c (one_more d no_trees)))) low = four_of a b c d (parts_case n k a b c low.0 low.1.0) (last d low.1.1.1.0)
  four_trees (one_more a (one_more b (one_more c (one_more d (one_more f ts))))) low =
      not_four (one_more a (one_more b (one_more c (one_more d (one_more f ts))))) (λ e. omega (arith, e))

  four_case : (t : Tree) → Low t → FourCase t
  four_case (array ts) low = four_trees ts low
  four_case (bytes b) low = no_four (bytes b) refl
  four_case (integer i) low = no_four (integer i) refl
  four_case (text b) low = no_four (text b) refl
  four_case (map_tree ps) low = no_four (map_tree ps) refl
  four_case (tag m t) low = no_four (tag m t) refl
  four_case (simple m) low = no_four (simple m) refl
  four_case (float f) low = no_four (float f) refl

pub sign1_case : (n k : ℕ) (t : Tree) → Low t → ((m : Sign1Fields) × HasSign1 n t m k) ⊎ ((e : CoseFault) × WrongSign1 n t k e)
sign1_case n k t low = go (four_case n k (List ℕ) (λ b d. d ≡ bytes b) IsNoBytes (λ d l. string d (string_case d)) t low)
  where
    string : (d : Tree) → StringCase d → ((b : List ℕ) × (d ≡ bytes b)) ⊎ ((e : CoseFault) × IsNoBytes d e)
    string d (inl b) = inl b
    string d (inr f) = inr (unexpected, (f, refl))

    go : FourCase n k (List ℕ) (λ b d. d ≡ bytes b) IsNoBytes (λ d l. string d (string_case d)) t → ((m : Sign1Fields) × HasSign1 n t m k) ⊎ ((e : CoseFault) × WrongSign1 n t k e)
    go (inl (p, u, c, b, h)) = inl (record { protected = p; unprotected = u; payload = c; signature = b }, h)
    go (inr w) = inr w

abbrev pub signature_list : Signatures → List SignatureFields
signature_list no_signatures = []
signature_list (signature_more s ss) = s ∷ signature_list ss

pub listed : (ss : Signatures) → ss ≡ signatures (signature_list ss)
listed no_signatures = refl
listed (signature_more s ss) = ap (signature_more s) (listed ss)

module _ (n k : ℕ) where
  abbrev SignaturesCase : Tree → Type 0
  SignaturesCase d = ((ss : List SignatureFields) × IsSignatureList n d ss k) ⊎ ((e : CoseFault) × WrongSignatureList n d k e)

  in_order_by : (ts : Trees) → LowAll ts → (w : ℕ) → weight_all ts < w → SignaturesCase (array ts)
  in_order_by ts low w l = go (signatures_case n w (λ u j m low'. header_case n u j low') k ts (all_lighter w ts l low))
    where
      go : ((ss : Signatures) × HasSignatures n ts ss k) ⊎ NoSignatureIn n w (λ u j m low'. header_case n u j low') k ts → SignaturesCase (array ts)
      go (inl (ss, x)) = inl (signature_list ss, (ts, refl, subst (λ z. HasSignatures n ts z k) (listed ss) x))
      go (inr x) = inr (unexpected, in_signature_list ts unexpected refl (record { before = x.front; after = x.after; tree = x.item; are = x.are; wrong = whatever x.fault x.wrong }))

  in_order : (ts : Trees) → LowAll ts → SignaturesCase (array ts)
  in_order ts low = in_order_by ts low (suc (weight_all ts)) (omega arith)

  signature_list_case : (d : Tree) → Low d → SignaturesCase d
  signature_list_case (array ts) low = in_order ts low
  signature_list_case (bytes b) low = inr (unexpected, no_signature_list refl)
  signature_list_case (integer i) low = inr (unexpected, no_signature_list refl)
  signature_list_case (text b) low = inr (unexpected, no_signature_list refl)
  signature_list_case (map_tree ps) low = inr (unexpected, no_signature_list refl)
  signature_list_case (tag m t) low = inr (unexpected, no_signature_list refl)
  signature_list_case (simple m) low = inr (unexpected, no_signature_list refl)
  signature_list_case (float f) low = inr (unexpected, no_signature_list refl)

pub sign_case : (n k : ℕ) (t : Tree) → Low t → ((m : SignFields) × HasSign n t m k) ⊎ ((e : CoseFault) × WrongSign n t k e)
sign_case n k t low = go (four_case n k (List SignatureFields) (λ ss d. IsSignatureList n d ss k) (λ d f. WrongSignatureList n d k f) (signature_list_case n k) t low)
  where
    go : FourCase n k (List SignatureFields) (λ ss d. IsSignatureList n d ss k) (λ d f. WrongSignatureList n d k f) (signature_list_case n k) t
        → ((m : SignFields) × HasSign n t m k) ⊎ ((e : CoseFault) × WrongSign n t k e)
    go (inl (p, u, c, ss, h)) = inl (record { protected = p; unprotected = u; payload = c; signatures = ss }, h)
    go (inr w) = inr w
