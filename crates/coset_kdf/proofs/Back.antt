-- What was read is written as the value that it was read of.
use Rattle.std.proofs.Common.{◌≡◌, ℕ, ℤ, pos, List, ◌∷◌, map, Bool, true, false, cond, Option, Some, None, option_map, refl, sym, ap, ◌∙◌}
use Rattle.std.specs.Prelude.{nat_eq, nat_lt}
use borrow.Author.Tests.{eqb-true}
use Rattle.cose_iana.specs.Algorithms.{is_algorithm}
use Rattle.cose_iana.specs.Registry.{is_private_use}
use Rattle.ciborium_value.specs.Tree.{Tree, integer, bytes, array, simple, one_more}
use Rattle.ciborium_value.specs.View.{trees}
use Rattle.coset_labels.specs.Facts.Back.{named_back}
use Rattle.coset_labels.specs.Labels.{is_i64, named_tree}
use Rattle.coset_headers.specs.Fields.{ProtectedFields, protected}
use Rattle.coset_headers.specs.Headers.{HasProtected, list_of_three}
use Rattle.coset_headers.specs.Written.{shown}
use Rattle.coset_kdf.specs.Contexts.{bytes_or_nil, nonce_of, HasParty, length_of, maybe_bytes, HasPublic, four_and, HasContext}
use Rattle.coset_kdf.specs.Fields.{NonceFields, nonce_bytes, nonce_integer, PartyFields, PublicFields, ContextFields}
use Rattle.coset_kdf.specs.Written.{bytes_or_nil_tree, nonce_tree, party_tree, public_tree, context_tree}

nil_back : (n : ℕ) (o : Option (List ℕ)) (b : Bool) → nat_eq n 22 ≡ b → cond b (Some None) None ≡ Some o → bytes_or_nil_tree o ≡ simple n
nil_back n o true q e = let h : Some None ≡ Some o = e in let k : None ≡ o = cc in ap bytes_or_nil_tree (sym k) ∙ ap simple (sym (eqb-true n 22 q))
nil_back n o false q e = let h : None ≡ Some o = e in cc

maybe_back : (t : Tree) (o : Option (List ℕ)) → bytes_or_nil t ≡ Some o → bytes_or_nil_tree o ≡ t
maybe_back (bytes b) o e = let h : Some (Some b) ≡ Some o = e in let k : Some b ≡ o = cc in ap bytes_or_nil_tree (sym k)
maybe_back (simple n) o e = nil_back n o (nat_eq n 22) refl e
maybe_back t o e = let h : None ≡ Some o = e in cc

no_nonce_back : (n : ℕ) (o : Option NonceFields) (b : Bool) → nat_eq n 22 ≡ b → cond b (Some None) None ≡ Some o → nonce_tree o ≡ simple n
no_nonce_back n o true q e = let h : Some None ≡ Some o = e in let k : None ≡ o = cc in ap nonce_tree (sym k) ∙ ap simple (sym (eqb-true n 22 q))
no_nonce_back n o false q e = let h : None ≡ Some o = e in cc

integer_back : (i : ℤ) (o : Option NonceFields) (b : Bool) → cond b (Some (Some (nonce_integer i))) None ≡ Some o → nonce_tree o ≡ integer i
integer_back i o true e = let h : Some (Some (nonce_integer i)) ≡ Some o = e in let k : Some (nonce_integer i) ≡ o = cc in ap nonce_tree (sym k)
integer_back i o false e = let h : None ≡ Some o = e in cc

nonce_back : (t : Tree) (o : Option NonceFields) → nonce_of t ≡ Some o → nonce_tree o ≡ t
nonce_back (bytes b) o e = let h : Some (Some (nonce_bytes b)) ≡ Some o = e in let k : Some (nonce_bytes b) ≡ o = cc in ap nonce_tree (sym k)
nonce_back (integer i) o e = integer_back i o (is_i64 i) e
nonce_back (simple n) o e = no_nonce_back n o (nat_eq n 22) refl e
nonce_back t o e = let h : None ≡ Some o = e in cc

pub party_back : (t : Tree) (p : PartyFields) → HasParty t p → party_tree p ≡ t
party_back t p (a, b, c, q, f, g, h) =
    let x = maybe_back a p.identity f in let y = nonce_back b p.nonce g in let z = maybe_back c p.other h in
    (λ i. array (list_of_three (x i) (y i) (z i))) ∙ sym q

small_back : (n m : ℕ) (b : Bool) → cond b (Some n) None ≡ Some m → integer (pos m) ≡ integer (pos n)
small_back n m true e = let h : Some n ≡ Some m = e in let k : n ≡ m = cc in ap (λ z. integer (pos z)) (sym k)
small_back n m false e = let h : None ≡ Some m = e in cc

length_back : (t : Tree) (m : ℕ) → length_of t ≡ Some m → integer (pos m) ≡ t
length_back (integer (pos n)) m e = small_back n m (nat_lt n 18446744073709551616) e
length_back t m e = let h : None ≡ Some m = e in cc

pub prot_back : (n : ℕ) (p : ProtectedFields) (t : Tree) (k : ℕ) → HasProtected n t p k → (b : List ℕ) × (t ≡ bytes b) × (shown p ≡ Some b)
prot_back n (protected o h) t k a = (a.0, a.1, ap (λ z. shown (protected z h)) a.2)

pub public_back : (n k : ℕ) (t : Tree) (s : PublicFields) → HasPublic n t s k → public_tree s ≡ Some t
public_back n k t s (a, b, q, l, p) =
    let w = prot_back n s.protected_header b k p in
    let x = length_back a s.key_data_length l in let y = sym w.1 in
    ap (option_map (λ b. array (trees (integer (pos s.key_data_length) ∷ bytes b ∷ maybe_bytes s.other)))) w.2
    ∙ ap Some ((λ i. array (one_more (x i) (one_more (y i) (trees (maybe_bytes s.other))))) ∙ sym q)

pub context_back : (n k : ℕ) (t : Tree) (c : ContextFields) → HasContext n t c k → context_tree c ≡ Some t
context_back n k t c (a, u, v, s, q, f, g, h, j) =
    let x = named_back is_algorithm is_private_use a c.algorithm f in let y = party_back u c.party_u g in let z = party_back v c.party_v h in
    ap (option_map (λ s. array (four_and (named_tree c.algorithm) (party_tree c.party_u) (party_tree c.party_v) s (trees (map bytes c.privates))))) (public_back n k s c.public j)
    ∙ ap Some ((λ i. array (four_and (x i) (y i) (z i) s (trees (map bytes c.privates)))) ∙ sym q)
