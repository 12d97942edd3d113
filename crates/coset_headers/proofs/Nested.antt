-- How deep signatures nest, by the size that the check itself gives them.
use Rattle.std.proofs.Common.{◌≡◌, ℕ, ◌+◌, ◌≤◌, ◌<◌, ◌≢◌, List, [], ◌∷◌, length, get_or, set, arith, suc, zero, ap, sym, ◌∙◌, subst, get_or-set_same, get_or-set_other}
use Rattle.std.specs.Prelude.{max}
use borrow.Author.Count.{below_more}
use denote.Param.Weighed.{most}
use Rattle.coset_headers.specs.declared.header.CoseSignature.{CoseSignature}
use Rattle.coset_headers.specs.declared.header.CoseSignature.TheViews.{out-CoseSignature, out-ProtectedHeader, out-Header, roll-CoseSignature, roll-Header, roll-ProtectedHeader, out-roll-CoseSignature, out-roll-Header, out-roll-ProtectedHeader, size_is-CoseSignature, size_is-Header, size_is-ProtectedHeader, size-CoseSignature, size-Header, size-ProtectedHeader}
use Rattle.coset_headers.specs.declared.header.CoseSignature.TheOpen.{Header-F, ProtectedHeader-F, CoseSignature-F}
use Rattle.coset_headers.specs.declared.header.Header.{Header}
use Rattle.coset_headers.specs.declared.header.ProtectedHeader.{ProtectedHeader}

pub header_size : (h : Header) → size-Header h ≡ most size-CoseSignature (out-Header h).counter_signatures.items + 1
header_size h = let e = size_is-Header h in omega (arith, e)

pub protected_size : (p : ProtectedHeader) → size-ProtectedHeader p ≡ size-Header (out-ProtectedHeader p).header + 1
protected_size p = let e = size_is-ProtectedHeader p in omega (arith, e)

pub signature_size : (s : CoseSignature) → size-CoseSignature s ≡ max (size-ProtectedHeader (out-CoseSignature s).protected) (size-Header (out-CoseSignature s).unprotected) + 1
signature_size s = let e = size_is-CoseSignature s in omega (arith, e)

-- no signature is smaller than one whose headers have none
pub size_least : (s : CoseSignature) → 3 ≤ size-CoseSignature s
size_least s =
    let a = signature_size s in
    let b = protected_size (out-CoseSignature s).protected in
    let c = header_size (out-ProtectedHeader (out-CoseSignature s).protected).header in
    omega (arith, a, b, c)

pub size_flat : (s : CoseSignature) → (out-Header (out-ProtectedHeader (out-CoseSignature s).protected).header).counter_signatures.items ≡ [] → (out-Header (out-CoseSignature s).unprotected).counter_signatures.items ≡ []
    → size-CoseSignature s ≤ 3
size_flat s p u =
    let a = signature_size s in
    let b = protected_size (out-CoseSignature s).protected in
    let c = header_size (out-ProtectedHeader (out-CoseSignature s).protected).header in
    let d = header_size (out-CoseSignature s).unprotected in
    let e = ap (most size-CoseSignature) p in
    let f = ap (most size-CoseSignature) u in
    omega (arith, a, b, c, d, e, f)

pub no_deeper : (xs ys : List CoseSignature) → length xs ≡ length ys → ((k : ℕ) (d : CoseSignature) → k < length xs → size-CoseSignature (get_or xs k d) ≤ 3) → most size-CoseSignature xs ≤ most size-CoseSignature ys
no_deeper [] ys e f = omega arith
no_deeper (x ∷ xs) [] e f = absurd (omega (arith, e))
no_deeper (x ∷ xs) (y ∷ ys) e f =
    let h = no_deeper xs ys (omega (arith, e)) (λ k d p. f (suc k) d (omega (arith, p))) in
    let a = f zero x (omega arith) in
    let b = size_least y in
    omega (arith, h, a, b)

pub flat_more : (xs : List CoseSignature) (i : ℕ) (x : CoseSignature) → i < length xs → ((k : ℕ) (d : CoseSignature) → k < i → size-CoseSignature (get_or xs k d) ≤ 3) → size-CoseSignature x ≤ 3
    → (k : ℕ) (d : CoseSignature) → k < i + 1 → size-CoseSignature (get_or (set xs i x) k d) ≤ 3
flat_more xs i x h f e k d p =
    below_more (λ k. (d : CoseSignature) → size-CoseSignature (get_or (set xs i x) k d) ≤ 3) i
    (λ j q d. let n : j ≢ i = omega arith in subst (λ z. size-CoseSignature z ≤ 3) (sym (get_or-set_other xs i j x d n)) (f j d q))
    (λ d. subst (λ z. size-CoseSignature z ≤ 3) (sym (get_or-set_same xs i x d h)) e) k p d

-- a signature whose headers were emptied in place
pub emptied : (s t : CoseSignature-F CoseSignature Header ProtectedHeader) (p : ProtectedHeader-F CoseSignature Header ProtectedHeader) (h g : Header-F CoseSignature Header ProtectedHeader)
    → s.protected ≡ (out-CoseSignature (roll-CoseSignature t)).protected → t.protected ≡ roll-ProtectedHeader p → p.header ≡ roll-Header h → h.counter_signatures.items ≡ []
    → s.unprotected ≡ roll-Header g → g.counter_signatures.items ≡ [] → size-CoseSignature (roll-CoseSignature s) ≤ 3
emptied s t p h g a b c d e f = size_flat (roll-CoseSignature s)
    (ap (λ z. (out-Header (out-ProtectedHeader z.protected).header).counter_signatures.items) (out-roll-CoseSignature s)
    ∙ ap (λ z. (out-Header (out-ProtectedHeader z).header).counter_signatures.items) a
    ∙ ap (λ z. (out-Header (out-ProtectedHeader z.protected).header).counter_signatures.items) (out-roll-CoseSignature t)
    ∙ ap (λ z. (out-Header (out-ProtectedHeader z).header).counter_signatures.items) b
    ∙ ap (λ z. (out-Header z.header).counter_signatures.items) (out-roll-ProtectedHeader p)
    ∙ ap (λ z. (out-Header z).counter_signatures.items) c
    ∙ ap (λ z. z.counter_signatures.items) (out-roll-Header h) ∙ d)
    (ap (λ z. (out-Header z.unprotected).counter_signatures.items) (out-roll-CoseSignature s)
    ∙ ap (λ z. (out-Header z).counter_signatures.items) e
    ∙ ap (λ z. z.counter_signatures.items) (out-roll-Header g) ∙ f)
