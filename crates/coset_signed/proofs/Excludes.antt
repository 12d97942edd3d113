-- A value with a fault has the fields of no message.
use Rattle.std.proofs.Common.{◌≡◌, ℕ, List, [], ◌∷◌, ◌++◌, true, false, sym, ap, subst, ◌∙◌}
use Rattle.ciborium_value.specs.Tree.{Tree, array, no_trees, one_more}
use Rattle.ciborium_value.specs.View.{trees}
use Rattle.coset_labels.specs.Faults.{CoseFault}
use Rattle.ciborium_value.specs.Kinds.{is_array}
use Rattle.coset_headers.specs.Fields.{SignatureFields, signatures, Signatures, no_signatures, signature_more}
use Rattle.coset_headers.specs.Headers.{HasSignature, HasSignatures}
use Rattle.coset_headers.proofs.Excludes.{sig_not}
use Rattle.coset_recipients.proofs.PartsOnce.{bytes_not, whole_not}
use Rattle.coset_signed.specs.Fields.{Sign1Fields, SignFields}
use Rattle.coset_signed.specs.Shapes.{IsSignatureList, HasSign1, HasSign}
use Rattle.coset_signed.specs.Wrong.{IsNoSignature, whatever, WrongSignatureList, no_list, in_list, WrongSign1, WrongSign}

sigs_at : (n k : ℕ) (before after : List Tree) (t : Tree) (ss : Signatures) → HasSignatures n (trees (before ++ t ∷ after)) ss k → (s : SignatureFields) × HasSignature n t s k
sigs_at n k [] after t no_signatures w = let e : one_more t (trees after) ≡ no_trees = w in cc
sigs_at n k [] after t (signature_more s ss) w = let e : one_more t (trees after) ≡ one_more w.0 w.1 = w.2 in let x : w.0 ≡ t = cc in (s, subst (λ z. HasSignature n z s k) x w.3)
sigs_at n k (b ∷ bs) after t no_signatures w = let e : one_more b (trees (bs ++ t ∷ after)) ≡ no_trees = w in cc
sigs_at n k (b ∷ bs) after t (signature_more s ss) w =
    let e : one_more b (trees (bs ++ t ∷ after)) ≡ one_more w.0 w.1 = w.2 in
    let x : w.1 ≡ trees (bs ++ t ∷ after) = cc in
    sigs_at n k bs after t ss (subst (λ z. HasSignatures n z ss k) x w.4)

item_not : (n : ℕ) (t : Tree) (s : SignatureFields) (k : ℕ) (e : CoseFault) → IsNoSignature n t k e → HasSignature n t s k → ⊥
item_not n t s k e (whatever f w) h = sig_not n t k f w s h

list_not : (n : ℕ) (t : Tree) (ss : List SignatureFields) (k : ℕ) (e : CoseFault) → WrongSignatureList n t k e → IsSignatureList n t ss k → ⊥
list_not n t ss k e (no_list x) h = let d : true ≡ false = sym (ap is_array h.1) ∙ x in cc
list_not n t ss k e (in_list ts _ q w) h =
    let whole : array ts ≡ array h.0 = sym q ∙ h.1 in
    let items : h.0 ≡ ts = cc in
    let z = sigs_at n k w.before w.after w.tree (signatures ss) (subst (λ u. HasSignatures n u (signatures ss) k) (items ∙ w.are) h.2) in
    item_not n w.tree z.0 k e w.wrong z.1

pub sign1_not : (n k : ℕ) (t : Tree) (e : CoseFault) (m : Sign1Fields) → WrongSign1 n t k e → HasSign1 n t m k → ⊥
sign1_not n k t e m w h = whole_not n t m.protected m.unprotected m.payload _ _ k e w h (bytes_not m.signature e, tt)

pub sign_not : (n k : ℕ) (t : Tree) (e : CoseFault) (m : SignFields) → WrongSign n t k e → HasSign n t m k → ⊥
sign_not n k t e m w h = whole_not n t m.protected m.unprotected m.payload _ _ k e w h (λ d x q. list_not n d m.signatures k e x q, tt)
