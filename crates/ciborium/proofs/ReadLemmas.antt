-- Items that are read, from their parts.
use Rattle.std.proofs.Common.{◌≡◌, ◌≤◌, ◌+◌, ◌*◌, ℕ, Bool, true, false, List, [], ◌∷◌, ◌++◌, length, map, Option, None, Some, refl, sym, ap, subst, ◌∙◌, arith, append_assoc}
use Rattle.std.specs.Option.{option_map, option_and_then}
use Rattle.ciborium_ll.specs.Reading.{Moves}
use Rattle.ciborium_ll.specs.declared.hdr.Header.{Header}
use Rattle.ciborium_ll.specs.declared.hdr.Header.TheVariants.{Simple, Break, Bytes, Text}
use Rattle.ciborium_ll.specs.Title.{Title}
use Rattle.ciborium.specs.declared.de.Error.{Error}
use Rattle.ciborium.specs.declared.de.Error.TheVariants as code
use Rattle.ciborium_value.specs.declared.kind.Kind.TheVariants as kind
use Rattle.ciborium_value.specs.Tree.{Tree, bytes, text, Trees, no_trees, one_more, flat, tree_count, depth, depth_all}
use Rattle.ciborium.specs.Spelling.{Spells, SpellsAll}
use Rattle.ciborium.specs.Meaning.{meaning, meanings, simple_meaning}
use Rattle.ciborium_value.specs.View.{trees, pairs}
use Rattle.ciborium.specs.Damage.{Fault, deep, semantic, Damage, in_title, unassigned, stray_break, too_deep, TitleDamage, Opens}
use Rattle.ciborium.specs.Front.{Reads, ReadsAll}
use Rattle.ciborium_ll.specs.Title.{Begins}
use Rattle.ciborium.specs.Reading.{Fails, EndPlace, IsLong, FailsAt, FailsAfterTitle, IfKnown, StringAfterHead, ReadsAfterTitle}
use Rattle.ciborium.specs.Frames.{snoc}
use Rattle.ciborium.proofs.Once.{append_nil}
use Rattle.ciborium.proofs.Taking.{fails_as, known_as, behind_title, takes_then, takes_none}

-- leaves
pub leaf : (h : Header) (tree v : Tree) (l : Option (List ℕ)) (o : ℕ) → ((title : List ℕ) → Title title h → Spells title tree) → depth tree ≤ 0 → meaning tree ≡ Some v
    → Moves l l o o (λ (b : List ℕ). (limit : ℕ) → ReadsAfterTitle h limit v b)
leaf h tree v l o spells low means =
    takes_none l o _ (λ limit title t. record { tree = tree; spells = subst (λ (z : List ℕ). Spells z tree) (append_nil title) (spells title t); shallow = omega arith; means = means })

-- strings
pub bytes_read : (o : Option ℕ) (limit : ℕ) (v : Tree) (items inner : List ℕ) → v ≡ bytes items → StringAfterHead false o items inner → ReadsAfterTitle (Bytes o) limit v inner
bytes_read o limit v items inner e s title t = record {
  tree = bytes items;
  spells = (s.bodies, s.frame title t, s.is);
  shallow = omega arith;
  means = ap Some (sym e);
}

pub text_read : (o : Option ℕ) (limit : ℕ) (v : Tree) (items inner : List ℕ) → v ≡ text items → StringAfterHead true o items inner → ReadsAfterTitle (Text o) limit v inner
text_read o limit v items inner e s title t = record {
  tree = text items;
  spells = (s.bodies, s.frame title t, s.is);
  shallow = omega arith;
  means = ap Some (sym e);
}

-- faults after a title, by what they are
pub behind_as : {E : Type 0} (ends : E → Bool) (h : Header) (at : ℕ) (l : Option (List ℕ)) (o o' : ℕ) (D D' : ℕ → List ℕ → Fault → Type 0) (e : Error E)
    → ((stop : ℕ) (b : List ℕ) (f : Fault) → D stop b f → D' stop b f) → FailsAfterTitle ends h at o l o' D e → FailsAfterTitle ends h at o l o' D' e
behind_as ends h at None o o' D D' e step w title t g = tt
behind_as ends h at (Some b) o o' D D' e step w title t g = fails_as ends _ _ _ _ _ _ e (λ q. q) (step (at + length (title ++ b)) (title ++ b)) (λ l. l) (w title t g)

-- from the faults of what is after
pub behind_rest : {E : Type 0} (ends : E → Bool) (h : Header) (at : ℕ) (l : Option (List ℕ)) (o o' : ℕ) (D D' : ℕ → List ℕ → Fault → Type 0) (e : Error E)
    → ((stop : ℕ) (b rest : List ℕ) (f : Fault) → Begins b h rest → D stop rest f → D' stop b f) → IfKnown l (λ b. FailsAt ends b o o' D e) → FailsAfterTitle ends h at o l o' D' e
behind_rest ends h at l o o' D D' e step w = behind_title ends h at l o o' D' e (λ title t. go title t l w)
  where
    go : (title : List ℕ) → Title title h → (l : Option (List ℕ)) → IfKnown l (λ b. FailsAt ends b o o' D e) → IfKnown l (λ b. FailsAt ends b o o' (λ stop b f. D' stop (title ++ b) f) e)
    go title t None w = tt
    go title t (Some b) w = fails_as ends _ _ _ _ _ _ e (λ q. q) (λ f d. step (o + length b) (title ++ b) b f (record { title = title; is_title = t; whole = refl }) d) (λ l. l) w

-- a fault that is told by the title alone
pub behind_now : {E : Type 0} (ends : E → Bool) (h : Header) (at : ℕ) (l : Option (List ℕ)) (o : ℕ) (D : ℕ → List ℕ → Fault → Type 0) (e : Error E) (f : Fault)
    → ((stop : ℕ) (b rest : List ℕ) → Begins b h rest → D stop b f) → ((Q long : Type 0) (D : Fault → Type 0) → D f → Fails ends Q D long e) → FailsAfterTitle ends h at o l o D e
behind_now ends h at None o D e f step is title t g = tt
behind_now ends h at (Some b) o D e f step is title t g = is (EndPlace (title ++ b) at o) (IsLong at (title ++ b)) (D (at + length (title ++ b)) (title ++ b)) (step (at + length (title ++ b)) (title ++ b) b (record { title = title; is_title = t; whole = refl }))

pub simple_fails : {E : Type 0} (ends : E → Bool) (n limit at : ℕ) (l : Option (List ℕ)) (o : ℕ) → simple_meaning n ≡ None
    → FailsAfterTitle {E = E} ends (Simple n) at o l o (λ stop b f. Damage stop b limit f) (code.Semantic None kind.Simple)
simple_fails ends n limit at l o e = behind_now ends (Simple n) at l o (λ stop b f. Damage stop b limit f) (code.Semantic None kind.Simple) (semantic kind.Simple) (λ stop b rest s. unassigned b rest limit n s e) (λ Q long D d. (refl, d))

pub break_fails : {E : Type 0} (ends : E → Bool) (limit at : ℕ) (l : Option (List ℕ)) (o : ℕ)
    → FailsAfterTitle {E = E} ends Break at o l o (λ stop b f. Damage stop b limit f) (code.Semantic None kind.Break)
break_fails ends limit at l o = behind_now ends Break at l o (λ stop b f. Damage stop b limit f) (code.Semantic None kind.Break) (semantic kind.Break) (λ stop b rest s. stray_break b rest limit s) (λ Q long D d. (refl, d))

pub deep_fails : {E : Type 0} (ends : E → Bool) (h : Header) (limit at : ℕ) (l : Option (List ℕ)) (o : ℕ) → limit ≡ 0 → ((rest : List ℕ) → Opens rest h)
    → FailsAfterTitle {E = E} ends h at o l o (λ stop b f. Damage stop b limit f) code.RecursionLimitExceeded
deep_fails ends h limit at l o e opens = behind_now ends h at l o (λ stop b f. Damage stop b limit f) code.RecursionLimitExceeded deep
    (λ stop b rest s. subst (λ (z : ℕ). Damage stop b z deep) (sym e) (too_deep b rest h s (opens rest))) (λ Q long D d. d)

-- several items
pub snoc_count : (ts : Trees) (t : Tree) → tree_count (snoc ts t) ≡ tree_count ts + 1
snoc_count no_trees t = refl
snoc_count (one_more u us) t = let h = snoc_count us t in omega arith

snoc_spells : (ts : Trees) (t : Tree) (a b : List ℕ) → SpellsAll a ts → Spells b t → SpellsAll (a ++ b) (snoc ts t)
snoc_spells no_trees t a b p q = (b, [], q, refl, ap (λ z. z ++ b) p ∙ append_nil b)
snoc_spells (one_more u us) t a b p q = (p.0, p.1 ++ b, p.2, snoc_spells us t p.1 b p.3 q, ap (λ z. z ++ b) p.4 ∙ append_assoc p.0 p.1 b)

snoc_depth : (ts : Trees) (t : Tree) (n : ℕ) → depth_all ts ≤ n → depth t ≤ n → depth_all (snoc ts t) ≤ n
snoc_depth no_trees t n p q = omega arith
snoc_depth (one_more u us) t n p q = let h : depth_all (snoc us t) ≤ n = snoc_depth us t n (omega arith) q in omega arith

pub meanings_parts : (t : Tree) (ts : Trees) (vs : Trees) → meanings (one_more t ts) ≡ Some vs → (v : Tree) × (ws : Trees) × (meaning t ≡ Some v) × (meanings ts ≡ Some ws) × (vs ≡ one_more v ws)
meanings_parts t ts vs e = go (meaning t) (meanings ts) refl refl e
  where
    go : (m : Option Tree) (ms : Option Trees) → meaning t ≡ m → meanings ts ≡ ms → option_and_then (λ u. option_map (one_more u) ms) m ≡ Some vs
        → (v : Tree) × (ws : Trees) × (meaning t ≡ Some v) × (meanings ts ≡ Some ws) × (vs ≡ one_more v ws)
    go None ms a b e = cc
    go (Some v) None a b e = cc
    go (Some v) (Some ws) a b e = (v, ws, a, b, cc)

pub meanings_made : (t : Tree) (ts : Trees) (v : Tree) (ws : Trees) → meaning t ≡ Some v → meanings ts ≡ Some ws → meanings (one_more t ts) ≡ Some (one_more v ws)
meanings_made t ts v ws a b = ap (option_and_then (λ u. option_map (one_more u) (meanings ts))) a ∙ ap (option_map (one_more v)) b

snoc_means : (ts vs : Trees) (t v : Tree) → meanings ts ≡ Some vs → meaning t ≡ Some v → meanings (snoc ts t) ≡ Some (snoc vs v)
snoc_means no_trees vs t v p q = let e : no_trees ≡ vs = cc in meanings_made t no_trees v no_trees q refl ∙ ap (λ z. Some (snoc z v)) e
snoc_means (one_more u us) vs t v p q =
    let w = meanings_parts u us vs p in
    meanings_made u (snoc us t) w.0 (snoc w.1 v) w.2 (snoc_means us w.1 t v w.3 q) ∙ ap (λ z. Some (snoc z v)) (sym w.4)

pub all_none : (limit : ℕ) → ReadsAll [] limit no_trees
all_none limit = record { trees = no_trees; spells = refl; shallow = omega arith; means = refl }

pub all_more : (a b : List ℕ) (limit : ℕ) (vs : Trees) (v : Tree) → ReadsAll a limit vs → Reads b limit v → ReadsAll (a ++ b) limit (snoc vs v)
all_more a b limit vs v p q = record {
  trees = snoc p.trees q.tree;
  spells = snoc_spells p.trees q.tree a b p.spells q.spells;
  shallow = snoc_depth p.trees q.tree limit p.shallow q.shallow;
  means = snoc_means p.trees vs q.tree v p.means q.means;
}

pub item_read : (l₁ l₂ l₃ : Option (List ℕ)) (o₁ o₂ o₃ limit : ℕ) (v : Tree) (h : Header)
    → Moves l₁ l₂ o₁ o₂ (λ (b : List ℕ). Title b h) → Moves l₂ l₃ o₂ o₃ (λ (b : List ℕ). ReadsAfterTitle h limit v b) → Moves l₁ l₃ o₁ o₃ (λ (b : List ℕ). Reads b limit v)
item_read l₁ l₂ l₃ o₁ o₂ o₃ limit v h t q = takes_then l₁ l₂ l₃ o₁ o₂ o₃ _ _ _ t q (λ x y a b. b x a)

pub item_title_fails : {E : Type 0} (ends : E → Bool) (l : Option (List ℕ)) (o o' limit : ℕ) (e : Error E)
    → IfKnown l (λ b. FailsAt ends b o o' TitleDamage e) → IfKnown l (λ b. FailsAt ends b o o' (λ stop b f. Damage stop b limit f) e)
item_title_fails ends l o o' limit e w = known_as ends l o o' TitleDamage (λ stop b f. Damage stop b limit f) e (λ stop b f d. in_title b limit f d) w

-- views of a list with one more
views_more : (ts : List Tree) (t : Tree) → trees (ts ++ t ∷ []) ≡ snoc (trees ts) t
views_more [] t = refl
views_more (u ∷ us) t = ap (one_more u) (views_more us t)

map_snoc : {A B : Type 0} (f : A → B) (xs : List A) (x : A) → map f (xs ++ x ∷ []) ≡ map f xs ++ f x ∷ []
map_snoc f [] x = refl
map_snoc f (y ∷ ys) x = ap (λ z. f y ∷ z) (map_snoc f ys x)

pub pushed : {V : Type 0} (f : V → Tree) (vs ws : List V) (v : V) → ws ≡ vs ++ v ∷ [] → snoc (trees (map f vs)) (f v) ≡ trees (map f ws)
pushed f vs ws v e = sym (ap (λ z. trees (map f z)) e ∙ ap trees (map_snoc f vs v) ∙ views_more (map f vs) (f v))

pub flat_more : (ps : List (Tree × Tree)) (p : Tree × Tree) → flat (pairs (ps ++ p ∷ [])) ≡ snoc (snoc (flat (pairs ps)) p.0) p.1
flat_more [] p = refl
flat_more (q ∷ qs) p = ap (λ z. one_more q.0 (one_more q.1 z)) (flat_more qs p)

pub pushed_pair : {V : Type 0} (f : V → Tree × Tree) (vs ws : List V) (v : V) → ws ≡ vs ++ v ∷ [] → snoc (snoc (flat (pairs (map f vs))) (f v).0) (f v).1 ≡ flat (pairs (map f ws))
pushed_pair f vs ws v e = sym (ap (λ z. flat (pairs (map f z))) e ∙ ap (λ z. flat (pairs z)) (map_snoc f vs v) ∙ flat_more (map f vs) (f v))

pub count_views : {V : Type 0} (f : V → Tree) (vs : List V) → tree_count (trees (map f vs)) ≡ length vs
count_views f [] = refl
count_views f (v ∷ vs) = let h = count_views f vs in omega arith

pub count_flat : {V : Type 0} (f : V → Tree × Tree) (vs : List V) → tree_count (flat (pairs (map f vs))) ≡ 2 * length vs
count_flat f [] = refl
count_flat f (v ∷ vs) = let h = count_flat f vs in omega arith
