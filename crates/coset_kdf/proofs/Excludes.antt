-- A value with a fault has no fields.
use Rattle.std.proofs.Common.{◌≡◌, ◌≢◌, ℕ, ℤ, ◌+◌, inl, inr, ◌⊎◌, List, [], ◌∷◌, ◌++◌, map, Bool, true, false, cond, Option, Some, None, refl, sym, ap, subst, ◌∙◌, arith}
use Rattle.std.specs.Prelude.{nat_eq}
use borrow.Author.Tests.{eqb-true}
use Rattle.cose_iana.specs.Algorithms.{is_algorithm}
use Rattle.cose_iana.specs.Registry.{is_private_use}
use Rattle.ciborium_value.specs.Tree.{Tree, integer, bytes, text, array, map as map_tree, tag, simple, float, no_trees, one_more, tree_count, is_bytes}
use Rattle.ciborium_value.specs.View.{trees}
use Rattle.coset_labels.specs.Facts.Wrong.{no_named}
use Rattle.coset_labels.specs.Faults.{CoseFault}
use Rattle.ciborium_value.specs.Kinds.{is_array}
use Rattle.coset_labels.specs.Labels.{named_of}
use Rattle.coset_headers.specs.Headers.{HasProtected, list_of_three}
use Rattle.coset_headers.proofs.Excludes.{prot_not}
use Rattle.coset_kdf.specs.Contexts.{bytes_or_nil, nonce_of, HasParty, magnitude, length_of, maybe_bytes, HasPublic, four_and, HasContext}
use Rattle.coset_kdf.specs.Fields.{NonceFields, nonce_integer, PartyFields, PublicFields, ContextFields}
use Rattle.coset_kdf.specs.Wrong.{NoBytesOrNil, WrongNonce, WrongParty, no_array, not_three, wrong_identity, wrong_nonce, wrong_other, WrongLength, WrongPublic, no_list, not_two_or_three, wrong_length, in_protected, no_bytes, WrongContext, not_list, too_few, wrong_algorithm, in_party_u, in_party_v, in_public, in_private}
use Rattle.coset_kdf.proofs.Unique.{three_same, two_same, four_same}

simple_if : {A : Type 0} (n : ℕ) (x : A) (b : Bool) → nat_eq n 22 ≡ b → (n ≡ 22 → ⊥) → cond b (Some x) None ≡ None
simple_if n x true q f = absurd (f (eqb-true n 22 q))
simple_if n x false q f = refl

neither : (t : Tree) → NoBytesOrNil t → bytes_or_nil t ≡ None
neither (bytes b) w = let h : true ≡ false = w.0 in cc
neither (simple n) w = simple_if {A = Option (List ℕ)} n None (nat_eq n 22) refl (λ e. w.1 (ap simple e))
neither (integer i) w = refl
neither (text b) w = refl
neither (array ts) w = refl
neither (map_tree ps) w = refl
neither (tag n t) w = refl
neither (float f) w = refl

abbrev nonce_if : Bool → ℤ → Option (Option NonceFields)
nonce_if small i = cond small (Some (Some (nonce_integer i))) None

no_nonce : (t : Tree) (e : CoseFault) → WrongNonce t e → nonce_of t ≡ None
no_nonce (integer i) e w = ap (λ b. nonce_if b i) w.0
no_nonce (bytes b) e w = absurd w
no_nonce (simple n) e w = simple_if {A = Option NonceFields} n None (nat_eq n 22) refl w.0
no_nonce (text b) e w = refl
no_nonce (array ts) e w = refl
no_nonce (map_tree ps) e w = refl
no_nonce (tag n t) e w = refl
no_nonce (float f) e w = refl

abbrev length_if : Bool → ℤ → Option ℕ
length_if small i = cond small (Some (magnitude i)) None

no_length : (t : Tree) (e : CoseFault) → WrongLength t e → length_of t ≡ None
no_length (integer i) e w = ap (λ b. length_if b i) w.0
no_length (bytes b) e w = refl
no_length (text b) e w = refl
no_length (array ts) e w = refl
no_length (map_tree ps) e w = refl
no_length (tag n t) e w = refl
no_length (simple n) e w = refl
no_length (float f) e w = refl

none_some : {A : Type 0} (o u : Option A) (x : A) → o ≡ u → o ≡ None → u ≡ Some x → ⊥
none_some o u x e p q = let h : None ≡ Some x = sym p ∙ e ∙ q in cc

pub party_not : (t : Tree) (e : CoseFault) (p : PartyFields) → WrongParty t e → HasParty t p → ⊥
party_not t e p (no_array _ w) (a, b, c, q, f, g, h) = let k : true ≡ false = sym (ap is_array q) ∙ w in cc
party_not t e p (not_three ts w) (a, b, c, q, f, g, h) =
    let k : array ts ≡ array (list_of_three a b c) = q in let r : ts ≡ list_of_three a b c = cc in w (ap tree_count r)
party_not t e p (wrong_identity x y z w) (a, b, c, q, f, g, h) = none_some _ _ p.identity (ap bytes_or_nil (three_same x y z a b c q).0) (neither x w) f
party_not t e p (wrong_nonce x y z _ w) (a, b, c, q, f, g, h) = none_some _ _ p.nonce (ap nonce_of (three_same x y z a b c q).1) (no_nonce y e w) g
party_not t e p (wrong_other x y z w) (a, b, c, q, f, g, h) = none_some _ _ p.other (ap bytes_or_nil (three_same x y z a b c q).2) (neither z w) h

count_maybe : (a b : Tree) (o : Option (List ℕ)) → (tree_count (trees (a ∷ b ∷ maybe_bytes o)) ≡ 2) ⊎ (tree_count (trees (a ∷ b ∷ maybe_bytes o)) ≡ 3)
count_maybe a b None = inl refl
count_maybe a b (Some c) = inr refl

by_count : (n m : ℕ) → n ≡ m → (m ≡ 2) ⊎ (m ≡ 3) → n ≢ 2 → n ≢ 3 → ⊥
by_count n m e (inl q) f g = f (e ∙ q)
by_count n m e (inr q) f g = g (e ∙ q)

third_is : (c : Tree) (o : Option (List ℕ)) → one_more c no_trees ≡ trees (maybe_bytes o) → is_bytes c ≡ false → ⊥
third_is c None e w = let h : one_more c no_trees ≡ no_trees = e in cc
third_is c (Some b) e w =
    let h : one_more c no_trees ≡ one_more (bytes b) no_trees = e in let k : c ≡ bytes b = cc in let f : true ≡ false = sym (ap is_bytes k) ∙ w in cc

pub public_not : (n k : ℕ) (t : Tree) (e : CoseFault) (s : PublicFields) → WrongPublic n t k e → HasPublic n t s k → ⊥
public_not n k t e s (no_list _ _ w) (a, b, q, l, p) = let h : true ≡ false = sym (ap is_array q) ∙ w in cc
public_not n k t e s (not_two_or_three ts _ f g) (a, b, q, l, p) =
    let h : array ts ≡ array (trees (a ∷ b ∷ maybe_bytes s.other)) = q in let r : ts ≡ trees (a ∷ b ∷ maybe_bytes s.other) = cc in
    by_count _ _ (ap tree_count r) (count_maybe a b s.other) f g
public_not n k t e s (wrong_length x y ts _ _ z w) (a, b, q, l, p) =
    none_some _ _ s.key_data_length (ap length_of (two_same x y a b ts (trees (maybe_bytes s.other)) q).0) (no_length x e w) l
public_not n k t e s (in_protected x y ts _ _ z w) (a, b, q, l, p) =
    prot_not n y k e w s.protected_header (subst (λ u. HasProtected n u s.protected_header k) (sym (two_same x y a b ts (trees (maybe_bytes s.other)) q).1) p)
public_not n k t e s (no_bytes x y z _ w) (a, b, q, l, p) = third_is z s.other (two_same x y a b (one_more z no_trees) (trees (maybe_bytes s.other)) q).2 w

bytes_among : (xs : List (List ℕ)) (before after : List Tree) (t : Tree) → trees (before ++ t ∷ after) ≡ trees (map bytes xs) → is_bytes t ≡ false → ⊥
bytes_among [] [] after t e w = let h : one_more t (trees after) ≡ no_trees = e in cc
bytes_among [] (b ∷ before) after t e w = let h : one_more b (trees (before ++ t ∷ after)) ≡ no_trees = e in cc
bytes_among (x ∷ xs) [] after t e w =
    let h : one_more t (trees after) ≡ one_more (bytes x) (trees (map bytes xs)) = e in let k : t ≡ bytes x = cc in let f : true ≡ false = sym (ap is_bytes k) ∙ w in cc
bytes_among (x ∷ xs) (b ∷ before) after t e w =
    let h : one_more b (trees (before ++ t ∷ after)) ≡ one_more (bytes x) (trees (map bytes xs)) = e in
    let k : trees (before ++ t ∷ after) ≡ trees (map bytes xs) = cc in
    bytes_among xs before after t k w

pub context_not : (n k : ℕ) (t : Tree) (e : CoseFault) (c : ContextFields) → WrongContext n t k e → HasContext n t c k → ⊥
context_not n k t e c (not_list _ _ w) (a, u, v, s, q, f, g, h, j) = let l : true ≡ false = sym (ap is_array q) ∙ w in cc
context_not n k t e c (too_few ts _ w) (a, u, v, s, q, f, g, h, j) =
    let l : array ts ≡ array (four_and a u v s (trees (map bytes c.privates))) = q in let r : ts ≡ four_and a u v s (trees (map bytes c.privates)) = cc in
    let m : tree_count ts ≡ 4 + tree_count (trees (map bytes c.privates)) = ap tree_count r ∙ omega arith in
    absurd (omega (arith, m, w))
context_not n k t e c (wrong_algorithm b w x r ts _ _ z) (a, u, v, s, q, f, g, h, j) =
    none_some _ _ c.algorithm (ap (named_of is_algorithm is_private_use) (four_same b w x r a u v s ts _ q).first) (no_named _ is_private_use b e z) f
context_not n k t e c (in_party_u b w x r ts _ _ z) (a, u, v, s, q, f, g, h, j) = party_not w e c.party_u z (subst (λ y. HasParty y c.party_u) (sym (four_same b w x r a u v s ts _ q).second) g)
context_not n k t e c (in_party_v b w x r ts _ _ z) (a, u, v, s, q, f, g, h, j) = party_not x e c.party_v z (subst (λ y. HasParty y c.party_v) (sym (four_same b w x r a u v s ts _ q).third) h)
context_not n k t e c (in_public b w x r ts _ _ z) (a, u, v, s, q, f, g, h, j) = public_not n k r e c.public z (subst (λ y. HasPublic n y c.public k) (sym (four_same b w x r a u v s ts _ q).fourth) j)
context_not n k t e c (in_private b w x r p before after _ z) (a, u, v, s, q, f, g, h, j) = bytes_among c.privates before after p (four_same b w x r a u v s _ _ q).behind z
