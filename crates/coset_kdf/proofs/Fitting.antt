-- Contexts whose parts fit.
use Rattle.std.proofs.Common.{◌≡◌, ℕ, pos, ◌+◌, ◌<◌, ◌^◌, List, [], ◌∷◌, ◌++◌, map, length, take, get_or, Vec, Global, Option, Some, None, option_map, refl, sym, ap, subst, ◌∙◌, arith}
use Rattle.std.proofs.lemmas.List.{take_more}
use Rattle.ciborium_value.specs.Tree.{Tree, integer, bytes, array, tree_count}
use Rattle.ciborium_value.specs.Encoding.{Fits, FitAll}
use Rattle.ciborium_value.specs.View.{trees}
use Rattle.coset_labels.specs.Labels.{named_tree}
use Rattle.coset_headers.specs.Written.{shown}
use Rattle.coset_kdf.specs.Contexts.{maybe_bytes, four_and}
use Rattle.coset_kdf.specs.Fields.{PartyFields, PublicFields, ContextFields}
use Rattle.coset_kdf.specs.Written.{bytes_or_nil_tree, nonce_tree, party_tree, public_tree, context_tree}

pub party_whole : (p : PartyFields) → Fits (bytes_or_nil_tree p.identity) → Fits (nonce_tree p.nonce) → Fits (bytes_or_nil_tree p.other) → Fits (party_tree p)
party_whole p f g h = (omega arith, (f, (g, (h, tt))))

behind_two : (a b : Tree) (o : Option (List ℕ)) → Fits a → Fits b → Fits (bytes_or_nil_tree o) → Fits (array (trees (a ∷ b ∷ maybe_bytes o)))
behind_two a b None f g h = (omega arith, (f, (g, tt)))
behind_two a b (Some c) f g h = (omega arith, (f, (g, (h, tt))))

of_some : (o : Option (List ℕ)) (b : List ℕ) (f : List ℕ → Tree) (t : Tree) → o ≡ Some b → option_map f o ≡ Some t → f b ≡ t
of_some o b f t e q = let h : Some (f b) ≡ Some t = sym (ap (option_map f) e) ∙ q in cc

pub public_whole : (s : PublicFields) (b : List ℕ) (t : Tree) → s.key_data_length < 2 ^ 64 → Fits (bytes_or_nil_tree s.other) → shown s.protected_header ≡ Some b → Fits (bytes b) → public_tree s ≡ Some t → Fits t
public_whole s b t l h e f q =
    let w = of_some (shown s.protected_header) b (λ b. array (trees (integer (pos s.key_data_length) ∷ bytes b ∷ maybe_bytes s.other))) t e q in
    subst Fits w (behind_two (integer (pos s.key_data_length)) (bytes b) s.other l f h)

one_item : (xs : List (List ℕ)) (x : List ℕ) → FitAll (trees (map bytes xs)) → Fits (bytes x) → FitAll (trees (map bytes (xs ++ x ∷ [])))
one_item [] x p q = (q, tt)
one_item (y ∷ xs) x p q = (p.0, one_item xs x p.1 q)

items_last : (xs : List (Vec ℕ Global)) (x : Vec ℕ Global) → map (λ v. v.items) (xs ++ x ∷ []) ≡ map (λ v. v.items) xs ++ x.items ∷ []
items_last [] x = refl
items_last (y ∷ xs) x = ap (λ z. y.items ∷ z) (items_last xs x)

pub item_fits : (vs : List (Vec ℕ Global)) (i : ℕ) (v : Vec ℕ Global) → i < length vs → v ≡ get_or vs i v → FitAll (trees (map bytes (map (λ v. v.items) (take i vs)))) → Fits (bytes v.items)
    → FitAll (trees (map bytes (map (λ v. v.items) (take (i + 1) vs))))
item_fits vs i v l e p q =
    let P : List (Vec ℕ Global) → Type 0 = λ z. FitAll (trees (map bytes (map (λ v. v.items) z))) in
    subst P (ap (λ z. take i vs ++ z ∷ []) e ∙ sym (take_more vs i v l))
    (subst (λ z. FitAll (trees (map bytes z))) (sym (items_last (take i vs) v)) (one_item (map (λ v. v.items) (take i vs)) v.items p q))

count : (xs : List (List ℕ)) → tree_count (trees (map bytes xs)) ≡ length xs
count [] = refl
count (x ∷ xs) = let h : tree_count (trees (map bytes xs)) ≡ length xs = count xs in omega arith

some_of : (o : Option Tree) (f : Tree → Tree) (t : Tree) → option_map f o ≡ Some t → (s : Tree) × (o ≡ Some s) × (f s ≡ t)
some_of None f t e = let h : None ≡ Some t = e in absurd (let g : ⊥ = cc in g)
some_of (Some s) f t e = (s, refl, (let h : Some (f s) ≡ Some t = e in cc))

pub context_whole : (c : ContextFields) (t : Tree) → Fits (named_tree c.algorithm) → Fits (party_tree c.party_u) → Fits (party_tree c.party_v)
    → ((s : Tree) → public_tree c.public ≡ Some s → Fits s) → FitAll (trees (map bytes c.privates)) → length c.privates + 4 < 2 ^ 64 → context_tree c ≡ Some t → Fits t
context_whole c t f g h s p l q =
    let w = some_of (public_tree c.public) (λ s. array (four_and (named_tree c.algorithm) (party_tree c.party_u) (party_tree c.party_v) s (trees (map bytes c.privates)))) t q in
    let n = count c.privates in
    subst Fits w.2 (omega (arith, n, l), (f, (g, (h, (s w.0 w.1, p)))))
