-- One value has the fields of at most one part, and of one context.
use Rattle.std.proofs.Common.{◌≡◌, ℕ, List, [], ◌∷◌, map, Option, Some, None, refl, sym, ap, subst, ◌∙◌}
use Rattle.cose_iana.specs.Algorithms.{is_algorithm}
use Rattle.cose_iana.specs.Registry.{is_private_use}
use Rattle.ciborium_value.specs.Tree.{Tree, bytes, array, Trees, no_trees, one_more}
use Rattle.ciborium_value.specs.View.{trees}
use Rattle.coset_labels.specs.Labels.{named_of}
use Rattle.coset_headers.specs.Headers.{HasProtected, list_of_three}
use Rattle.coset_headers.proofs.Unique.{prot_once}
use Rattle.coset_kdf.specs.Contexts.{HasParty, HasPublic, HasContext, bytes_or_nil, nonce_of, length_of, maybe_bytes, four_and}
use Rattle.coset_kdf.specs.Fields.{PartyFields, PublicFields, ContextFields}

some_same : {A : Type 0} (o u : Option A) (x y : A) → o ≡ u → o ≡ Some x → u ≡ Some y → x ≡ y
some_same o u x y e p q = let h : Some x ≡ Some y = sym p ∙ e ∙ q in cc

pub three_same : (a b c x y z : Tree) → array (list_of_three a b c) ≡ array (list_of_three x y z) → (a ≡ x) × (b ≡ y) × (c ≡ z)
three_same a b c x y z e =
    let h : array (one_more a (one_more b (one_more c no_trees))) ≡ array (one_more x (one_more y (one_more z no_trees))) = e in
    let p : a ≡ x = cc in let q : b ≡ y = cc in let r : c ≡ z = cc in
    (p, q, r)

pub party_once : (t : Tree) (p q : PartyFields) → HasParty t p → HasParty t q → p ≡ q
party_once t p q (a, b, c, e, f, g, h) (x, y, z, r, s, u, v) =
    let w = three_same a b c x y z (sym e ∙ r) in
    let i1 = some_same _ _ p.identity q.identity (ap bytes_or_nil w.0) f s in
    let i2 = some_same _ _ p.nonce q.nonce (ap nonce_of w.1) g u in
    let i3 = some_same _ _ p.other q.other (ap bytes_or_nil w.2) h v in
    λ i. record { identity = i1 i; nonce = i2 i; other = i3 i }

maybe_same : (o u : Option (List ℕ)) → trees (maybe_bytes o) ≡ trees (maybe_bytes u) → o ≡ u
maybe_same None None e = refl
maybe_same None (Some c) e = let h : no_trees ≡ one_more (bytes c) no_trees = e in cc
maybe_same (Some b) None e = let h : one_more (bytes b) no_trees ≡ no_trees = e in cc
maybe_same (Some b) (Some c) e = let h : one_more (bytes b) no_trees ≡ one_more (bytes c) no_trees = e in let k : bytes b ≡ bytes c = cc in let s : b ≡ c = cc in ap Some s

pub two_same : (a b x y : Tree) (ts us : Trees) → array (one_more a (one_more b ts)) ≡ array (one_more x (one_more y us)) → (a ≡ x) × (b ≡ y) × (ts ≡ us)
two_same a b x y ts us e = let p : a ≡ x = cc in let q : b ≡ y = cc in let r : ts ≡ us = cc in (p, q, r)

pub public_once : (n k : ℕ) (t : Tree) (s u : PublicFields) → HasPublic n t s k → HasPublic n t u k → s ≡ u
public_once n k t s u (a, b, e, l, p) (x, y, f, m, q) =
    let w = two_same a b x y (trees (maybe_bytes s.other)) (trees (maybe_bytes u.other)) (sym e ∙ f) in
    let i1 = some_same _ _ s.key_data_length u.key_data_length (ap length_of w.0) l m in
    let i2 = prot_once n s.protected_header u.protected_header b k p (subst (λ z. HasProtected n z u.protected_header k) (sym w.1) q) in
    let i3 = maybe_same s.other u.other w.2 in
    λ i. record { key_data_length = i1 i; protected_header = i2 i; other = i3 i }

privates_same : (xs ys : List (List ℕ)) → trees (map bytes xs) ≡ trees (map bytes ys) → xs ≡ ys
privates_same [] [] e = refl
privates_same [] (y ∷ ys) e = let h : no_trees ≡ one_more (bytes y) (trees (map bytes ys)) = e in cc
privates_same (x ∷ xs) [] e = let h : one_more (bytes x) (trees (map bytes xs)) ≡ no_trees = e in cc
privates_same (x ∷ xs) (y ∷ ys) e =
    let h : one_more (bytes x) (trees (map bytes xs)) ≡ one_more (bytes y) (trees (map bytes ys)) = e in
    let k : bytes x ≡ bytes y = cc in let s : x ≡ y = cc in let r : trees (map bytes xs) ≡ trees (map bytes ys) = cc in
    let t = privates_same xs ys r in
    λ i. s i ∷ t i

-- the elements of one list
pub record Same (a u v s b w x r : Tree) (ts us : Trees) : Type 0 where
  pub first : a ≡ b
  pub second : u ≡ w
  pub third : v ≡ x
  pub fourth : s ≡ r
  pub behind : ts ≡ us

pub four_same : (a u v s b w x r : Tree) (ts us : Trees) → array (four_and a u v s ts) ≡ array (four_and b w x r us) → Same a u v s b w x r ts us
four_same a u v s b w x r ts us e =
    let h : array (one_more a (one_more u (one_more v (one_more s ts)))) ≡ array (one_more b (one_more w (one_more x (one_more r us)))) = e in
    record { first = cc; second = cc; third = cc; fourth = cc; behind = cc }

pub context_once : (n k : ℕ) (t : Tree) (c d : ContextFields) → HasContext n t c k → HasContext n t d k → c ≡ d
context_once n k t c d (a, u, v, s, e, f, g, h, j) (b, w, x, r, l, m, o, p, q) =
    let y = four_same a u v s b w x r _ _ (sym e ∙ l) in
    let i1 = some_same _ _ c.algorithm d.algorithm (ap (named_of is_algorithm is_private_use) y.first) f m in
    let i2 = party_once u c.party_u d.party_u g (subst (λ z. HasParty z d.party_u) (sym y.second) o) in
    let i3 = party_once v c.party_v d.party_v h (subst (λ z. HasParty z d.party_v) (sym y.third) p) in
    let i4 = public_once n k s c.public d.public j (subst (λ z. HasPublic n z d.public k) (sym y.fourth) q) in
    let i5 = privates_same c.privates d.privates y.behind in
    λ i. record { algorithm = i1 i; party_u = i2 i; party_v = i3 i; public = i4 i; privates = i5 i }
