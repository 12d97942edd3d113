-- A value has the fields of at most one message, and of none if it has a fault.
use Rattle.std.proofs.Common.{◌≡◌, ℕ, List, [], ◌∷◌, refl, sym, subst, ◌∙◌}
use Rattle.ciborium_value.specs.Tree.{Tree, array}
use Rattle.coset_headers.specs.Fields.{SignatureFields, signatures, no_signatures, signature_more}
use Rattle.coset_headers.specs.Headers.{HasSignatures}
use Rattle.coset_headers.proofs.Unique.{sigs_once}
use Rattle.coset_recipients.proofs.PartsOnce.{bytes_once, whole_once}
use Rattle.coset_signed.specs.Fields.{Sign1Fields, SignFields}
use Rattle.coset_signed.specs.Shapes.{IsSignatureList, HasSign1, HasSign}

pub sign1_once : (n k : ℕ) (t : Tree) (m o : Sign1Fields) → HasSign1 n t m k → HasSign1 n t o k → m ≡ o
sign1_once n k t m o a b =
    let s = whole_once n t m.protected o.protected m.unprotected o.unprotected m.payload o.payload _ _ k a b in
    let d = s.lasts.0 in
    let signature = bytes_once m.signature o.signature d.0 d.1 d.2 in
    λ i. record { protected = s.protected i; unprotected = s.unprotected i; payload = s.content i; signature = signature i }

signatures_once : (ss us : List SignatureFields) → signatures ss ≡ signatures us → ss ≡ us
signatures_once [] [] e = refl
signatures_once [] (u ∷ us) e = let h : no_signatures ≡ signature_more u (signatures us) = e in cc
signatures_once (s ∷ ss) [] e = let h : signature_more s (signatures ss) ≡ no_signatures = e in cc
signatures_once (s ∷ ss) (u ∷ us) e =
    let h : signature_more s (signatures ss) ≡ signature_more u (signatures us) = e in
    let first : s ≡ u = cc in
    let rest : signatures ss ≡ signatures us = cc in
    let r = signatures_once ss us rest in
    λ i. first i ∷ r i

list_once : (n : ℕ) (t : Tree) (ss us : List SignatureFields) (k : ℕ) → IsSignatureList n t ss k → IsSignatureList n t us k → ss ≡ us
list_once n t ss us k a b =
    let e : array a.0 ≡ array b.0 = sym a.1 ∙ b.1 in
    let f : b.0 ≡ a.0 = cc in
    signatures_once ss us (sigs_once n (signatures ss) (signatures us) a.0 k a.2 (subst (λ z. HasSignatures n z (signatures us) k) f b.2))

pub sign_once : (n k : ℕ) (t : Tree) (m o : SignFields) → HasSign n t m k → HasSign n t o k → m ≡ o
sign_once n k t m o a b =
    let s = whole_once n t m.protected o.protected m.unprotected o.unprotected m.payload o.payload _ _ k a b in
    let d = s.lasts.0 in
    let signed = list_once n d.0 m.signatures o.signatures k d.1 d.2 in
    λ i. record { protected = s.protected i; unprotected = s.unprotected i; payload = s.content i; signatures = signed i }
