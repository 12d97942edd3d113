-- Headers and signatures with the same parts.
use Rattle.std.proofs.Common.{◌≡◌, List, [], ◌∷◌, ◌++◌, map, Option, option_map, refl, sym, ap, ◌∙◌, ◌+◌, ◌<◌, ℕ, length, set, get_or, take, append_assoc}
use Rattle.std.proofs.lemmas.List.{map-append, take_more}
use Rattle.std.proofs.Math.Seq.{get_or-append_seam}
use Rattle.coset_headers.specs.Copies.{unsigned_header, unsigned}
use Rattle.coset_headers.specs.Fields.{SignatureFields, HeaderFields, header, ProtectedFields, protected, signature, no_signatures, signature_more, signatures}
use Rattle.coset_headers.specs.View.{header_view, protected_view, signature_view, signatures_view, plain_parts, signature_step, header_step, protected_step}
use Rattle.coset_headers.specs.declared.header.Header.{Header, out-Header, roll-Header, roll-out-Header, out-roll-Header, fold-roll-Header}
use Rattle.coset_headers.specs.declared.header.ProtectedHeader.{ProtectedHeader, out-ProtectedHeader, roll-ProtectedHeader, roll-out-ProtectedHeader, fold-roll-ProtectedHeader}
use Rattle.coset_headers.specs.declared.header.CoseSignature.{CoseSignature, out-CoseSignature, roll-CoseSignature, roll-out-CoseSignature, out-roll-CoseSignature, fold-roll-CoseSignature}
use Rattle.coset_headers.specs.declared.header.CoseSignature.TheOpen.{Header-F, ProtectedHeader-F, CoseSignature-F}

-- the views of what is put together
pub header_of : (x : Header-F CoseSignature Header ProtectedHeader) → header_view (roll-Header x) ≡ header (plain_parts x) (signatures_view x.counter_signatures.items)
header_of x = fold-roll-Header SignatureFields HeaderFields ProtectedFields signature_step header_step protected_step x

pub protected_of : (x : ProtectedHeader-F CoseSignature Header ProtectedHeader) → protected_view (roll-ProtectedHeader x) ≡ protected (option_map (λ v. v.items) x.original_data) (header_view x.header)
protected_of x = fold-roll-ProtectedHeader SignatureFields HeaderFields ProtectedFields signature_step header_step protected_step x

pub signature_of : (x : CoseSignature-F CoseSignature Header ProtectedHeader) → signature_view (roll-CoseSignature x) ≡ signature (protected_view x.protected) (header_view x.unprotected) x.signature.items
signature_of x = fold-roll-CoseSignature SignatureFields HeaderFields ProtectedFields signature_step header_step protected_step x

pub plain_rolled : (x : Header-F CoseSignature Header ProtectedHeader) → plain_parts (out-Header (roll-Header x)) ≡ plain_parts x
plain_rolled x = ap plain_parts (out-roll-Header x)

pub signs_rolled : (x : Header-F CoseSignature Header ProtectedHeader) → signatures_view (out-Header (roll-Header x)).counter_signatures.items ≡ signatures_view x.counter_signatures.items
signs_rolled x = ap (λ z. signatures_view z.counter_signatures.items) (out-roll-Header x)

-- the views of what is taken apart
pub header_is : (h : Header) → header_view h ≡ header (plain_parts (out-Header h)) (signatures_view (out-Header h).counter_signatures.items)
header_is h = ap header_view (sym (roll-out-Header h)) ∙ header_of (out-Header h)

pub protected_is : (p : ProtectedHeader) → protected_view p ≡ protected (option_map (λ v. v.items) (out-ProtectedHeader p).original_data) (header_view (out-ProtectedHeader p).header)
protected_is p = ap protected_view (sym (roll-out-ProtectedHeader p)) ∙ protected_of (out-ProtectedHeader p)

pub signature_is : (s : CoseSignature) → signature_view s ≡ signature (protected_view (out-CoseSignature s).protected) (header_view (out-CoseSignature s).unprotected) (out-CoseSignature s).signature.items
signature_is s = ap signature_view (sym (roll-out-CoseSignature s)) ∙ signature_of (out-CoseSignature s)

-- a header of copies, without counter signatures
pub plain_copied : (x : Header-F CoseSignature Header ProtectedHeader) (h : Header) → plain_parts x ≡ plain_parts (out-Header h) → x.counter_signatures.items ≡ [] → header_view (roll-Header x) ≡ unsigned_header (header_view h)
plain_copied x h e g = header_of x ∙ (λ i. header (e i) (signatures_view (g i))) ∙ sym (ap unsigned_header (header_is h))

none_viewed : (ss : List CoseSignature) → signatures_view ss ≡ no_signatures → map signature_view ss ≡ []
none_viewed [] e = refl
none_viewed (s ∷ ss) e = let k : signature_more (signature_view s) (signatures_view ss) ≡ no_signatures = e in cc

-- the headers of a signature, and the bytes received of its protected one
abbrev pub of_protected : CoseSignature → Header-F CoseSignature Header ProtectedHeader
of_protected s = out-Header (out-ProtectedHeader (out-CoseSignature s).protected).header

abbrev pub of_unprotected : CoseSignature → Header-F CoseSignature Header ProtectedHeader
of_unprotected s = out-Header (out-CoseSignature s).unprotected

abbrev pub received : CoseSignature → Option (List ℕ)
received s = option_map (λ v. v.items) (out-ProtectedHeader (out-CoseSignature s).protected).original_data

pub signature_seen : (s : CoseSignature) → signature_view s ≡ signature (protected (received s) (header (plain_parts (of_protected s)) (signatures_view (of_protected s).counter_signatures.items)))
    (header (plain_parts (of_unprotected s)) (signatures_view (of_unprotected s).counter_signatures.items)) (out-CoseSignature s).signature.items
signature_seen s = signature_is s ∙ (λ i. signature ((protected_is (out-CoseSignature s).protected
    ∙ (λ j. protected (received s) (header_is (out-ProtectedHeader (out-CoseSignature s).protected).header j))) i) (header_is (out-CoseSignature s).unprotected i) (out-CoseSignature s).signature.items)

-- a signature that was copied without the counter signatures in its headers, and into which those
-- were then copied
module _ (copy from : CoseSignature) (is : signature_view copy ≡ unsigned (signature_view from)) where
  both : signature (protected (received copy) (header (plain_parts (of_protected copy)) (signatures_view (of_protected copy).counter_signatures.items)))
      (header (plain_parts (of_unprotected copy)) (signatures_view (of_unprotected copy).counter_signatures.items)) (out-CoseSignature copy).signature.items
      ≡ signature (protected (received from) (header (plain_parts (of_protected from)) no_signatures)) (header (plain_parts (of_unprotected from)) no_signatures) (out-CoseSignature from).signature.items
  both = sym (signature_seen copy) ∙ is ∙ ap unsigned (signature_seen from)

  pub filled : (ps us : List CoseSignature) (y : CoseSignature) (s t : CoseSignature-F CoseSignature Header ProtectedHeader) (p : ProtectedHeader-F CoseSignature Header ProtectedHeader)
      (h g : Header-F CoseSignature Header ProtectedHeader)
      → y ≡ roll-CoseSignature t → s.protected ≡ (out-CoseSignature y).protected → t.protected ≡ roll-ProtectedHeader p → p.header ≡ roll-Header h → s.unprotected ≡ roll-Header g
      → s.signature ≡ (out-CoseSignature y).signature → t.signature ≡ (out-CoseSignature copy).signature → t.unprotected ≡ (out-CoseSignature copy).unprotected
      → p.original_data ≡ (out-ProtectedHeader (out-CoseSignature copy).protected).original_data → plain_parts h ≡ plain_parts (of_protected copy)
      → plain_parts g ≡ plain_parts (of_unprotected y)
      → map signature_view h.counter_signatures.items ≡ map signature_view (of_protected copy).counter_signatures.items ++ map signature_view ps → ps ≡ (of_protected from).counter_signatures.items
      → map signature_view g.counter_signatures.items ≡ map signature_view (of_unprotected y).counter_signatures.items ++ map signature_view us → us ≡ (of_unprotected from).counter_signatures.items
      → signature_view (roll-CoseSignature s) ≡ signature_view from
  filled ps us y s t p h g ye sp tp ph su ss ts tu po hp gp hs pe gs ue =
      let e = both in
      let received_same : received copy ≡ received from = cc in
      let plain_protected : plain_parts (of_protected copy) ≡ plain_parts (of_protected from) = cc in
      let plain_unprotected : plain_parts (of_unprotected copy) ≡ plain_parts (of_unprotected from) = cc in
      let bytes_same : (out-CoseSignature copy).signature.items ≡ (out-CoseSignature from).signature.items = cc in
      let none_protected : signatures_view (of_protected copy).counter_signatures.items ≡ no_signatures = cc in
      let none_unprotected : signatures_view (of_unprotected copy).counter_signatures.items ≡ no_signatures = cc in
      let y_is : out-CoseSignature y ≡ t = ap out-CoseSignature ye ∙ out-roll-CoseSignature t in
      let u : (out-CoseSignature y).unprotected ≡ (out-CoseSignature copy).unprotected = ap (λ z. z.unprotected) y_is ∙ tu in
      let signs_protected : map signature_view h.counter_signatures.items ≡ map signature_view (of_protected from).counter_signatures.items =
      hs ∙ ap (λ z. z ++ map signature_view ps) (none_viewed _ none_protected) ∙ ap (map signature_view) pe in
      let signs_unprotected : map signature_view g.counter_signatures.items ≡ map signature_view (of_unprotected from).counter_signatures.items =
      gs ∙ ap (λ z. map signature_view (out-Header z).counter_signatures.items ++ map signature_view us) u ∙ ap (λ z. z ++ map signature_view us) (none_viewed _ none_unprotected)
      ∙ ap (map signature_view) ue in
      let in_protected : header_view (roll-Header h) ≡ header (plain_parts (of_protected from)) (signatures_view (of_protected from).counter_signatures.items) =
      header_of h ∙ (λ i. header ((hp ∙ plain_protected) i) (signatures (signs_protected i))) in
      let in_unprotected : header_view (roll-Header g) ≡ header (plain_parts (of_unprotected from)) (signatures_view (of_unprotected from).counter_signatures.items) =
      header_of g ∙ (λ i. header ((gp ∙ ap (λ z. plain_parts (out-Header z)) u ∙ plain_unprotected) i) (signatures (signs_unprotected i))) in
      let protected_same : protected_view s.protected ≡ protected (received from) (header (plain_parts (of_protected from)) (signatures_view (of_protected from).counter_signatures.items)) =
      ap protected_view (sp ∙ ap (λ z. z.protected) y_is ∙ tp) ∙ protected_of p
      ∙ (λ i. protected ((ap (option_map (λ v. v.items)) po ∙ received_same) i) ((ap header_view ph ∙ in_protected) i)) in
      let signature_same : s.signature.items ≡ (out-CoseSignature from).signature.items = ap (λ z. z.items) (ss ∙ ap (λ z. z.signature) y_is ∙ ts) ∙ bytes_same in
      signature_of s ∙ (λ i. signature (protected_same i) ((ap header_view su ∙ in_unprotected) i) (signature_same i)) ∙ sym (signature_seen from)

last_set : {A : Type 0} (xs : List A) (x y : A) → set (xs ++ x ∷ []) (length xs) y ≡ xs ++ y ∷ []
last_set [] x y = refl
last_set (z ∷ zs) x y = ap (λ w. z ∷ w) (last_set zs x y)

-- one more signature is copied: the copy x was appended, and then replaced by z and by y
pub copied_more : (base xs pushed : List CoseSignature) (from : List CoseSignature) (i n m : ℕ) (x z y s : CoseSignature) → pushed ≡ xs ++ x ∷ [] → n ≡ length xs → m ≡ length xs
    → map signature_view xs ≡ map signature_view base ++ map signature_view (take i from) → i < length from → s ≡ get_or from i s → signature_view y ≡ signature_view s
    → map signature_view (set (set pushed n z) m y) ≡ map signature_view base ++ map signature_view (take (i + 1) from)
copied_more base xs pushed from i n m x z y s p q r inv h g e =
    ap (λ w. map signature_view (set (set w n z) m y)) p ∙ (λ j. map signature_view (set (set (xs ++ x ∷ []) (q j) z) (r j) y))
    ∙ ap (λ w. map signature_view (set w (length xs) y)) (last_set xs x z) ∙ ap (map signature_view) (last_set xs z y)
    ∙ map-append signature_view xs (y ∷ []) ∙ (λ j. inv j ++ ((e ∙ ap signature_view g) j ∷ []))
    ∙ append_assoc (map signature_view base) (map signature_view (take i from)) (signature_view (get_or from i s) ∷ [])
    ∙ ap (λ z. map signature_view base ++ z) (sym (map-append signature_view (take i from) (get_or from i s ∷ [])) ∙ ap (map signature_view) (sym (take_more from i s h)))

-- the last signature, before and after it was replaced
pub last_of : (xs pushed : List CoseSignature) (x d : CoseSignature) (n : ℕ) → pushed ≡ xs ++ x ∷ [] → n ≡ length xs → get_or pushed n d ≡ x
last_of xs pushed x d n p q = (λ i. get_or (p i) (q i) d) ∙ get_or-append_seam xs x [] d

pub last_replaced : (xs pushed : List CoseSignature) (x z d : CoseSignature) (n m : ℕ) → pushed ≡ xs ++ x ∷ [] → n ≡ length xs → m ≡ length xs → get_or (set pushed n z) m d ≡ z
last_replaced xs pushed x z d n m p q r = (λ i. get_or (set (p i) (q i) z) (r i) d) ∙ ap (λ w. get_or w (length xs) d) (last_set xs x z) ∙ get_or-append_seam xs z [] d

-- a header that was copied without counter signatures, and into which those were then copied
pub header_filled : (copy from : Header) (ss : List CoseSignature) (h : Header-F CoseSignature Header ProtectedHeader) → header_view copy ≡ unsigned_header (header_view from)
    → plain_parts h ≡ plain_parts (out-Header copy)
    → map signature_view h.counter_signatures.items ≡ map signature_view (out-Header copy).counter_signatures.items ++ map signature_view ss → ss ≡ (out-Header from).counter_signatures.items
    → header_view (roll-Header h) ≡ header_view from
header_filled copy from ss h is p q r =
    let e : header (plain_parts (out-Header copy)) (signatures_view (out-Header copy).counter_signatures.items) ≡ header (plain_parts (out-Header from)) no_signatures =
    sym (header_is copy) ∙ is ∙ ap unsigned_header (header_is from) in
    let plain_same : plain_parts (out-Header copy) ≡ plain_parts (out-Header from) = cc in
    let none : signatures_view (out-Header copy).counter_signatures.items ≡ no_signatures = cc in
    let signs : map signature_view h.counter_signatures.items ≡ map signature_view (out-Header from).counter_signatures.items =
    q ∙ ap (λ z. z ++ map signature_view ss) (none_viewed _ none) ∙ ap (map signature_view) r in
    header_of h ∙ (λ i. header ((p ∙ plain_same) i) (signatures (signs i))) ∙ sym (header_is from)
