-- Structures with the same bytes have the same parts.
use Rattle.std.proofs.Common.{◌≡◌, ℕ, ◌+◌, ◌^◌, ◌<◌, List, [], ◌∷◌, length, true, false, cond, nat_eq, nat_lt, Option, Some, None, refl, sym, ap, ◌∙◌, arith, length-append}
use Rattle.std.specs.Prelude.{◌↔◌, option_map, option_and_then}
use Rattle.ciborium_ll.specs.Title.{title_of}
use Rattle.ciborium_ll.specs.declared.hdr.Header.TheVariants.{Bytes, Array}
use Rattle.ciborium_value.specs.Tree.{Tree, bytes, text, array, Trees, no_trees, one_more, tree_count}
use Rattle.ciborium_value.specs.View.{trees}
use Rattle.ciborium_value.specs.Encoding.{enc, enc_all}
use Rattle.ciborium_value.specs.Facts.Heads.{Sized}
use Rattle.ciborium_value.proofs.OneEncoding.{sized_once}
use Rattle.coset_headers.specs.Fields.{ProtectedFields}
use Rattle.coset_headers.specs.Written.{shown}
use Rattle.coset_base.specs.declared.context.SignatureContext.{SignatureContext}
use Rattle.coset_base.specs.declared.context.SignatureContext.TheVariants as signature
use Rattle.coset_base.specs.declared.context.MacContext.{MacContext}
use Rattle.coset_base.specs.declared.context.MacContext.TheVariants as mac
use Rattle.coset_base.specs.declared.context.EncryptionContext.{EncryptionContext}
use Rattle.coset_base.specs.declared.context.EncryptionContext.TheVariants as encryption
use Rattle.coset_base.specs.Contexts.{signature_text, mac_text, encryption_text}
use Rattle.coset_base.specs.Structure.{structure, enc_structure, shown_signer, sig_structure, mac_structure, encryption_structure}
use Rattle.coset_base.specs.Covered.{Covered, signed, maced, encrypted, covered_bytes, CoveredFits, covered_by_sig, covered_by_mac, covered_by_enc}

-- ---- contexts by their texts
abbrev first : List ℕ → ℕ
first [] = 0
first (x ∷ xs) = x

abbrev signature_by : ℕ → SignatureContext
signature_by n = cond (nat_eq n 9) signature.CoseSignature (cond (nat_eq n 10) signature.CoseSign1 signature.CounterSignature)

signature_back : (c : SignatureContext) → signature_by (length (signature_text c)) ≡ c
signature_back signature.CoseSignature = refl
signature_back signature.CoseSign1 = refl
signature_back signature.CounterSignature = refl

signature_once : (c d : SignatureContext) → signature_text c ≡ signature_text d → c ≡ d
signature_once c d e = sym (signature_back c) ∙ ap (λ l. signature_by (length l)) e ∙ signature_back d

abbrev mac_by : ℕ → MacContext
mac_by n = cond (nat_eq n 3) mac.CoseMac mac.CoseMac0

mac_back : (c : MacContext) → mac_by (length (mac_text c)) ≡ c
mac_back mac.CoseMac = refl
mac_back mac.CoseMac0 = refl

mac_once : (c d : MacContext) → mac_text c ≡ mac_text d → c ≡ d
mac_once c d e = sym (mac_back c) ∙ ap (λ l. mac_by (length l)) e ∙ mac_back d

abbrev encryption_by : ℕ → EncryptionContext
encryption_by n =
    cond (nat_eq n 76) encryption.CoseEncrypt (cond (nat_eq n 77) encryption.CoseEncrypt0 (cond (nat_eq n 82) encryption.EncRecipient (cond (nat_eq n 90) encryption.MacRecipient encryption.RecRecipient)))

encryption_back : (c : EncryptionContext) → encryption_by (length (encryption_text c) + first (encryption_text c)) ≡ c
encryption_back encryption.CoseEncrypt = refl
encryption_back encryption.CoseEncrypt0 = refl
encryption_back encryption.EncRecipient = refl
encryption_back encryption.MacRecipient = refl
encryption_back encryption.RecRecipient = refl

encryption_once : (c d : EncryptionContext) → encryption_text c ≡ encryption_text d → c ≡ d
encryption_once c d e = sym (encryption_back c) ∙ ap (λ l. encryption_by (length l + first l)) e ∙ encryption_back d

signature_long : (c : SignatureContext) → nat_lt (length (signature_text c)) 9 ≡ false
signature_long signature.CoseSignature = refl
signature_long signature.CoseSign1 = refl
signature_long signature.CounterSignature = refl

mac_short : (c : MacContext) → nat_lt (length (mac_text c)) 9 ≡ true
mac_short mac.CoseMac = refl
mac_short mac.CoseMac0 = refl

signature_mac : (c : SignatureContext) (d : MacContext) → signature_text c ≡ mac_text d → ⊥
signature_mac c d e =
    let h : false ≡ true = sym (signature_long c) ∙ ap (λ l. nat_lt (length l) 9) e ∙ mac_short d in cc

-- ---- the arrays
abbrev tree_of : Covered → Tree
tree_of (signed c b None a p) = array (trees (text (signature_text c) ∷ bytes b ∷ bytes a ∷ bytes p ∷ []))
tree_of (signed c b (Some s) a p) = array (trees (text (signature_text c) ∷ bytes b ∷ bytes s ∷ bytes a ∷ bytes p ∷ []))
tree_of (maced c b a p) = array (trees (text (mac_text c) ∷ bytes b ∷ bytes a ∷ bytes p ∷ []))
tree_of (encrypted c b a) = array (trees (text (encryption_text c) ∷ bytes b ∷ bytes a ∷ []))

is_tree : (x : Covered) → covered_bytes x ≡ enc (tree_of x)
is_tree (signed c b None a p) = refl
is_tree (signed c b (Some s) a p) = refl
is_tree (maced c b a p) = refl
is_tree (encrypted c b a) = refl

signature_small : (c : SignatureContext) → length (signature_text c) < 2 ^ 64
signature_small signature.CoseSignature = omega arith
signature_small signature.CoseSign1 = omega arith
signature_small signature.CounterSignature = omega arith

mac_small : (c : MacContext) → length (mac_text c) < 2 ^ 64
mac_small mac.CoseMac = omega arith
mac_small mac.CoseMac0 = omega arith

encryption_small : (c : EncryptionContext) → length (encryption_text c) < 2 ^ 64
encryption_small encryption.CoseEncrypt = omega arith
encryption_small encryption.CoseEncrypt0 = omega arith
encryption_small encryption.EncRecipient = omega arith
encryption_small encryption.MacRecipient = omega arith
encryption_small encryption.RecRecipient = omega arith

sized : (x : Covered) → CoveredFits x → Sized (tree_of x)
sized (signed c b None a p) f = (omega arith, (signature_small c, (f.0, (f.2, (f.3, tt)))))
sized (signed c b (Some s) a p) f = (omega arith, (signature_small c, (f.0, (f.1, (f.2, (f.3, tt))))))
sized (maced c b a p) f = (omega arith, (mac_small c, (f.0, (f.1, (f.2, tt)))))
sized (encrypted c b a) f = (omega arith, (encryption_small c, (f.0, (f.1, tt))))

-- ---- the parts of an array
parts_once : (x y : Covered) → tree_of x ≡ tree_of y → x ≡ y
parts_once (signed c b None a p) (signed d k None m q) e =
    let t : signature_text c ≡ signature_text d = cc in
    let f : c ≡ d = signature_once c d t in
    let g : b ≡ k = cc in
    let h : a ≡ m = cc in
    let l : p ≡ q = cc in
    λ i. signed (f i) (g i) None (h i) (l i)
parts_once (signed c b (Some s) a p) (signed d k (Some r) m q) e =
    let t : signature_text c ≡ signature_text d = cc in
    let f : c ≡ d = signature_once c d t in
    let g : b ≡ k = cc in
    let j : s ≡ r = cc in
    let h : a ≡ m = cc in
    let l : p ≡ q = cc in
    λ i. signed (f i) (g i) (Some (j i)) (h i) (l i)
parts_once (signed c b None a p) (signed d k (Some r) m q) e = cc
parts_once (signed c b (Some s) a p) (signed d k None m q) e = cc
parts_once (signed c b None a p) (maced d k m q) e = absurd (let t : signature_text c ≡ mac_text d = cc in signature_mac c d t)
parts_once (signed c b (Some s) a p) (maced d k m q) e = cc
parts_once (signed c b None a p) (encrypted d k m) e = cc
parts_once (signed c b (Some s) a p) (encrypted d k m) e = cc
parts_once (maced c b a p) (signed d k None m q) e = absurd (let t : signature_text d ≡ mac_text c = cc in signature_mac d c t)
parts_once (maced c b a p) (signed d k (Some r) m q) e = cc
parts_once (maced c b a p) (maced d k m q) e =
    let t : mac_text c ≡ mac_text d = cc in
    let f : c ≡ d = mac_once c d t in
    let g : b ≡ k = cc in
    let h : a ≡ m = cc in
    let l : p ≡ q = cc in
    λ i. maced (f i) (g i) (h i) (l i)
parts_once (maced c b a p) (encrypted d k m) e = cc
parts_once (encrypted c b a) (signed d k None m q) e = cc
parts_once (encrypted c b a) (signed d k (Some r) m q) e = cc
parts_once (encrypted c b a) (maced d k m q) e = cc
parts_once (encrypted c b a) (encrypted d k m) e =
    let t : encryption_text c ≡ encryption_text d = cc in
    let f : c ≡ d = encryption_once c d t in
    let g : b ≡ k = cc in
    let h : a ≡ m = cc in
    λ i. encrypted (f i) (g i) (h i)

pub one_structure : (x y : Covered) → CoveredFits x → CoveredFits y → (covered_bytes x ≡ covered_bytes y) ↔ (x ≡ y)
one_structure x y f g = (
  λ e. parts_once x y (sized_once (tree_of x) (tree_of y) (sized x f) (sized y g) (sym (is_tree x) ∙ e ∙ is_tree y)),
  λ e. ap covered_bytes e,
)

-- ---- the parts of a structure that is short enough
abbrev Short : Trees → Type 0
Short no_trees = Unit {0}
Short (one_more t ts) = (length (enc t) < 2 ^ 64) × Short ts

short : (ts : Trees) → length (enc_all ts) < 2 ^ 64 → Short ts
short no_trees l = tt
short (one_more t ts) l =
    let e = length-append (enc t) (enc_all ts) in
    (omega (arith, l, e), short ts (omega (arith, l, e)))

items_short : (ts : Trees) → length (enc (array ts)) < 2 ^ 64 → Short ts
items_short ts l = short ts (omega (arith, l, length-append (title_of (Array (Some (tree_count ts)))) (enc_all ts)))

bytes_short : (b : List ℕ) → length (enc (bytes b)) < 2 ^ 64 → length b < 2 ^ 64
bytes_short b l = omega (arith, l, length-append (title_of (Bytes (Some (length b)))) b)

pub parts_fit : (x : Covered) → length (covered_bytes x) < 2 ^ 64 → CoveredFits x
parts_fit (signed c b None a p) l =
    let h = items_short (trees (text (signature_text c) ∷ bytes b ∷ bytes a ∷ bytes p ∷ [])) l in
    (bytes_short b h.1.0, tt, bytes_short a h.1.1.0, bytes_short p h.1.1.1.0)
parts_fit (signed c b (Some s) a p) l =
    let h = items_short (trees (text (signature_text c) ∷ bytes b ∷ bytes s ∷ bytes a ∷ bytes p ∷ [])) l in
    (bytes_short b h.1.0, bytes_short s h.1.1.0, bytes_short a h.1.1.1.0, bytes_short p h.1.1.1.1.0)
parts_fit (maced c b a p) l =
    let h = items_short (trees (text (mac_text c) ∷ bytes b ∷ bytes a ∷ bytes p ∷ [])) l in
    (bytes_short b h.1.0, bytes_short a h.1.1.0, bytes_short p h.1.1.1.0)
parts_fit (encrypted c b a) l =
    let h = items_short (trees (text (encryption_text c) ∷ bytes b ∷ bytes a ∷ [])) l in
    (bytes_short b h.1.0, bytes_short a h.1.1.0)

-- ---- structures of protected headers
pub sig_parts : (c : SignatureContext) (p : ProtectedFields) (o : Option ProtectedFields) (aad payload : List ℕ)
    → sig_structure (signature_text c) p o aad payload ≡ option_map covered_bytes (covered_by_sig c p o aad payload)
sig_parts c p o aad payload = go (shown p) (shown_signer o)
  where
    go : (x : Option (List ℕ)) (y : Option (Option (List ℕ)))
        → option_and_then (λ b. option_map (λ s. structure (signature_text c) b s aad payload) y) x
        ≡ option_map covered_bytes (option_and_then (λ b. option_map (λ s. signed c b s aad payload) y) x)
    go None y = refl
    go (Some b) None = refl
    go (Some b) (Some s) = refl

pub mac_parts : (c : MacContext) (p : ProtectedFields) (aad payload : List ℕ)
    → mac_structure (mac_text c) p aad payload ≡ option_map covered_bytes (covered_by_mac c p aad payload)
mac_parts c p aad payload = go (shown p)
  where
    go : (x : Option (List ℕ)) → option_map (λ b. structure (mac_text c) b None aad payload) x ≡ option_map covered_bytes (option_map (λ b. maced c b aad payload) x)
    go None = refl
    go (Some b) = refl

pub enc_parts : (c : EncryptionContext) (p : ProtectedFields) (aad : List ℕ)
    → encryption_structure (encryption_text c) p aad ≡ option_map covered_bytes (covered_by_enc c p aad)
enc_parts c p aad = go (shown p)
  where
    go : (x : Option (List ℕ)) → option_map (λ b. enc_structure (encryption_text c) b aad) x ≡ option_map covered_bytes (option_map (λ b. encrypted c b aad) x)
    go None = refl
    go (Some b) = refl
