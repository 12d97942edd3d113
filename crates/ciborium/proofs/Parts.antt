-- The parts of an item that is at the front of some bytes, after its title.
use Rattle.std.proofs.Common.{◌≡◌, ◌≢◌, ◌≤◌, ◌<◌, ◌+◌, ◌-◌, ◌*◌, ◌%◌, ◌⊎◌, inl, inr, ℕ, suc, Bool, true, false, cond, List, [], ◌∷◌, ◌++◌, Option, None, Some, refl, sym, ap, subst, ◌∙◌, arith, append_assoc, nat_eq, ◌&&◌, ◌||◌}
use Rattle.std.proofs.lemmas.List.{append_cancel_left}
use Rattle.std.proofs.lemmas.Bool.Decides.{nat_tests}
use Rattle.ciborium_ll.specs.declared.hdr.Header.{Header}
use Rattle.ciborium_ll.specs.declared.hdr.Header.TheVariants.{Simple, Tag, Bytes, Array, Map}
use Rattle.ciborium_ll.specs.Title.{Title, Begins}
use Rattle.ciborium_value.specs.Tree.{Tree, bytes, array, map, tag, simple, Trees, no_trees, one_more, Pairs, no_pairs, pair_more, flat, tree_count, pair_count, depth, depth_all, depth_pairs, opens_none, is_bytes}
use Rattle.ciborium.specs.Spelling.{Around, Spells, SpellsAll, SpellsPairs}
use Rattle.ciborium.specs.Damage.{Due, in_array, in_map, in_open_array, in_open_map, in_entry, under_tag, IsLevel}
use Rattle.ciborium.specs.Front.{Fronts}
use Rattle.ciborium.proofs.Once.{append_nil, regroup, first, split, once, no_break, head_kind, tree_kind, array_same, map_same}
use Rattle.ciborium.proofs.ChildLemmas.{all_count, none_read, unflat_depth, flat_count}

-- the tree t is at the front, whatever it means
pub record Stands (b : List ℕ) (t : Tree) (rest : List ℕ) : Type 0 where
  pub spelling : List ℕ
  pub whole : b ≡ spelling ++ rest
  pub spells : Spells spelling t

-- two titles at one place
meets : (b title tail spelling inside rest : List ℕ) (h k : Header) → Title title h → spelling ≡ title ++ tail → b ≡ spelling ++ rest → Begins b k inside → (h ≡ k) × (inside ≡ tail ++ rest)
meets b title tail spelling inside rest h k t e w s =
    let v = split spelling (s.title ++ inside) title s.title tail inside rest [] h k t s.is_title e refl (sym w ∙ s.whole ∙ append_nil (s.title ++ inside)) in
    (v.heads, append_nil inside ∙ sym v.rests)

-- an item has the kind of the title that it begins with
pub kind_at : (b r rest : List ℕ) (h : Header) (t : Tree) → Begins b h r → Stands b t rest → head_kind h ≡ tree_kind t
kind_at b r rest h t s f =
    let p = first t f.spelling f.spells in
    let m = meets b p.title p.rest f.spelling r rest p.head h p.is_title p.whole_is f.whole s in
    sym (ap head_kind m.0) ∙ p.kind_is

pub stands_begins : (b rest : List ℕ) (t : Tree) → Stands b t rest → (h : Header) × (r : List ℕ) × Begins b h r
stands_begins b rest t f =
    let p = first t f.spelling f.spells in
    (p.head, p.rest ++ rest, record { title = p.title; is_title = p.is_title; whole = f.whole ∙ regroup f.spelling p.title p.rest rest p.whole_is })

pub kind_bytes : (o : Option ℕ) → head_kind (Bytes o) ≡ 1
unfolding head_kind
kind_bytes o = refl

pub kind_array : (o : Option ℕ) → head_kind (Array o) ≡ 3
unfolding head_kind
kind_array o = refl

kind_map : (o : Option ℕ) → head_kind (Map o) ≡ 4
unfolding head_kind
kind_map o = refl

kind_tag : (n : ℕ) → head_kind (Tag n) ≡ 5
unfolding head_kind
kind_tag n = refl

kind_simple : (n : ℕ) → head_kind (Simple n) ≡ 6
unfolding head_kind
kind_simple n = refl

-- a simple value
pub simple_part : (b r rest : List ℕ) (n : ℕ) (t : Tree) → Begins b (Simple n) r → Stands b t rest → t ≡ simple n
simple_part b r rest n (simple m) s f =
    let w = meets b f.spelling [] f.spelling r rest (Simple m) (Simple n) f.spells (append_nil f.spelling) f.whole s in
    let h : Simple m ≡ Simple n = w.0 in
    cc
simple_part b r rest n t s f = absurd (let k : 6 ≡ tree_kind t = sym (kind_simple n) ∙ kind_at b r rest (Simple n) t s f in omega arith)

-- a tag and what it is over
pub record Tagged (n : ℕ) (t : Tree) (inside rest : List ℕ) : Type 0 where
  pub under : Tree
  pub is : t ≡ tag n under
  pub at : Stands inside under rest

pub tag_parts : (b inside rest : List ℕ) (n : ℕ) (t : Tree) → Begins b (Tag n) inside → Stands b t rest → Tagged n t inside rest
tag_parts b inside rest n (tag m c) s f =
    let p = f.spells in
    let w = meets b p.0 p.1 f.spelling inside rest (Tag m) (Tag n) p.2 p.4 f.whole s in
    let h : Tag m ≡ Tag n = w.0 in
    let k : m ≡ n = cc in
    record { under = c; is = ap (λ z. tag z c) k; at = record { spelling = p.1; whole = w.1; spells = p.3 } }
tag_parts b inside rest n t s f = absurd (let k : 5 ≡ tree_kind t = sym (kind_tag n) ∙ kind_at b inside rest (Tag n) t s f in omega arith)

-- the bytes after a title that says o, around `inner` and before `rest`
abbrev pub Held : Option ℕ → ℕ → List ℕ → List ℕ → List ℕ → Type 0
Held o n inner inside rest = ((o ≡ Some n) × (inside ≡ inner ++ rest)) ⊎ ((o ≡ None) × (inside ≡ inner ++ (255 ∷ rest)))

pub around_parts : (k : Option ℕ → Header) → ((o p : Option ℕ) → k o ≡ k p → o ≡ p) → (b spelling inside rest : List ℕ) (o : Option ℕ) (n : ℕ) (P : List ℕ → Type 0)
    → Around k n spelling P → b ≡ spelling ++ rest → Begins b (k o) inside → (inner : List ℕ) × P inner × Held o n inner inside rest
around_parts k inj b spelling inside rest o n P (inl (title, inner, p, has, e)) w s =
    let m = meets b title inner spelling inside rest (k (Some n)) (k o) p e w s in
    (inner, has, inl (sym (inj (Some n) o m.0), m.1))
around_parts k inj b spelling inside rest o n P (inr (title, inner, p, has, e)) w s =
    let m = meets b title (inner ++ 255 ∷ []) spelling inside rest (k None) (k o) p e w s in
    (inner, has, inr (sym (inj None o m.0), m.1 ∙ append_assoc inner (255 ∷ []) rest))

-- keys and values in order
flat_spells : (ps : Pairs) (b : List ℕ) → SpellsPairs b ps → SpellsAll b (flat ps)
flat_spells no_pairs b p = p
flat_spells (pair_more k v ps) b p = (p.0, p.1 ++ p.2, p.3, (p.1, p.2, p.4, flat_spells ps p.2 p.5, refl), p.6)

-- what holds of an item, and of those inside it
pub record Inherited (P : Tree → Type 0) (Q : Trees → Type 0) : Type 0 where
  pub of_array : (ts : Trees) → P (array ts) → Q ts
  pub of_map : (ps : Pairs) → P (map ps) → Q (flat ps)
  pub of_tag : (n : ℕ) (t : Tree) → P (tag n t) → P t
  pub of_items : (t : Tree) (ts : Trees) → Q (one_more t ts) → P t × Q ts

-- an item of at most `limit` levels that is at `at`, and has P; if nothing follows it, nothing
-- follows the item around it, after which comes `after`
pub record Standing (P : Tree → Type 0) (at : List ℕ) (limit : ℕ) (after : List ℕ) : Type 0 where
  pub tree : Tree
  pub rest : List ℕ
  pub there : Stands at tree rest
  pub shallow : depth tree ≤ limit
  pub has : P tree
  pub last : rest ≡ [] → after ≡ []

-- the children of an array or a map whose title says o; `total` is how many a length stands for
record Children (Q : Trees → Type 0) (total : ℕ → ℕ) (o : Option ℕ) (limit : ℕ) (inside rest : List ℕ) : Type 0 where
  pub trees : Trees
  pub length : ℕ
  pub inner : List ℕ
  pub spells : SpellsAll inner trees
  pub deep : depth_all trees < limit
  pub have : Q trees
  pub count : tree_count trees ≡ total length
  pub held : Held o length inner inside rest

-- one more child than `done` is at `at`, if all of them are n and `behind` follows them
More : ℕ → ℕ → List ℕ → List ℕ → Type 0
More done n at behind = (done < n) ⊎ (((done ≢ n) ⊎ ((r : List ℕ) → at ≢ 255 ∷ r)) × ((w : List ℕ) × (behind ≡ 255 ∷ w)))

fewer_more : (n m : ℕ) (at behind : List ℕ) → More (1 + n) (1 + m) at behind → More n m at behind
unfolding More
fewer_more n m at behind (inl l) = inl (omega arith)
fewer_more n m at behind (inr (inl ne, w)) = inr (inl (λ e. ne (ap (λ z. 1 + z) e)), w)
fewer_more n m at behind (inr (inr not, w)) = inr (inr not, w)

-- one more child is due after d of them
abbrev Wanted : (ℕ → ℕ) → Option ℕ → ℕ → List ℕ → Type 0
Wanted total (Some n) d at = d < total n
Wanted total None d at = ((m : ℕ) → d ≢ total m) ⊎ ((r : List ℕ) → at ≢ 255 ∷ r)

wanted_more : (total : ℕ → ℕ) (o : Option ℕ) (n m d : ℕ) (at inner inside rest : List ℕ) → m ≡ total n → Held o n inner inside rest → Wanted total o d at
    → (behind : List ℕ) × (inside ≡ inner ++ behind) × More d m at behind × (behind ≡ [] → rest ≡ [])
unfolding More
wanted_more total (Some k) n m d at inner inside rest c (inl (e, w)) l =
    let f : k ≡ n = cc in
    (rest, w, inl (subst (λ (z : ℕ). d < z) (ap total f ∙ sym c) l), λ g. g)
wanted_more total (Some k) n m d at inner inside rest c (inr (e, w)) l = absurd (cc)
wanted_more total None n m d at inner inside rest c (inl (e, w)) l = absurd (cc)
wanted_more total None n m d at inner inside rest c (inr (e, w)) (inl odd) = (255 ∷ rest, w, inr (inl (λ f. odd n (f ∙ c)), (rest, refl)), λ g. absurd (cc))
wanted_more total None n m d at inner inside rest c (inr (e, w)) (inr not) = (255 ∷ rest, w, inr (inr not, (rest, refl)), λ g. absurd (cc))

odd_no : (d m : ℕ) → d % 2 ≡ 1 → d ≢ 2 * m
odd_no d m e f = omega arith

pub no_more : (a b : List ℕ) → a ++ b ≡ [] → b ≡ []
no_more [] b e = e
no_more (x ∷ xs) b e = absurd (let f : x ∷ (xs ++ b) ≡ [] = e in cc)

-- which tags open a level
bytes_kind : (t : Tree) → is_bytes t ≡ true → tree_kind t ≡ 1
bytes_kind (bytes b) e = refl
bytes_kind t e = absurd (cc)

bytes_flat : (t : Tree) → tree_kind t ≡ 1 → depth t ≡ 0
bytes_flat (bytes b) e = refl
bytes_flat t e = absurd (omega arith)

both : (a b : Bool) → (a && b) ≡ true → (a ≡ true) × (b ≡ true)
both true b e = (refl, e)
both false b e = absurd (cc)

either : (n : ℕ) → (nat_eq n 2 || nat_eq n 3) ≡ true → (n ≢ 2) × (n ≢ 3) → ⊥
either n e d = grind (arith, nat_tests, d.0, d.1)

pub head_bytes : (h : Header) → head_kind h ≡ 1 → (o : Option ℕ) × (h ≡ Bytes o)
unfolding head_kind
head_bytes (Bytes o) e = (o, refl)
head_bytes h e = absurd (omega arith)

level_not : (n : ℕ) (inside rest : List ℕ) (t : Tree) → IsLevel n inside → opens_none n t ≡ true → Stands inside t rest → ⊥
level_not n inside rest t (inl d) e f = either n (both (nat_eq n 2 || nat_eq n 3) (is_bytes t) e).0 d
level_not n inside rest t (inr (h, r, s, not)) e f =
    let w = head_bytes h (kind_at inside r rest h t s f ∙ bytes_kind t (both (nat_eq n 2 || nat_eq n 3) (is_bytes t) e).1) in
    not w.0 w.1

pub level_deep : (n limit : ℕ) (inside rest : List ℕ) (t : Tree) → IsLevel n inside → Stands inside t rest → depth (tag n t) ≤ limit → suc (depth t) ≤ limit
level_deep n limit inside rest t l f d = go (opens_none n t) refl d
  where
    go : (c : Bool) → opens_none n t ≡ c → cond c 0 (suc (depth t)) ≤ limit → suc (depth t) ≤ limit
    go true e d = absurd (level_not n inside rest t l e f)
    go false e d = d

under_depth : (n limit : ℕ) (t : Tree) → depth (tag n t) ≤ limit → depth t ≤ limit
under_depth n limit t d = go (opens_none n t) refl d
  where
    go : (c : Bool) → opens_none n t ≡ c → cond c 0 (suc (depth t)) ≤ limit → depth t ≤ limit
    go true e d = let z = bytes_flat t (bytes_kind t (both (nat_eq n 2 || nat_eq n 3) (is_bytes t) e).1) in omega arith
    go false e d = omega arith

-- P goes from an item to those inside it
module _ (P : Tree → Type 0) (Q : Trees → Type 0) (inherited : Inherited P Q) where
  array_children : (b inside rest : List ℕ) (o : Option ℕ) (limit : ℕ) (t : Tree) → Begins b (Array o) inside → Stands b t rest → depth t ≤ limit → P t → Children Q (λ n. n) o limit inside rest
  array_children b inside rest o limit (array ts) s f d p =
      let w = around_parts Array array_same b f.spelling inside rest o (tree_count ts) (λ inner. SpellsAll inner ts) f.spells f.whole s in
      record { trees = ts; length = tree_count ts; inner = w.0; spells = w.1; deep = omega arith; have = inherited.of_array ts p; count = refl; held = w.2 }
  array_children b inside rest o limit t s f d p = absurd (let k : 3 ≡ tree_kind t = sym (kind_array o) ∙ kind_at b inside rest (Array o) t s f in omega arith)

  map_children : (b inside rest : List ℕ) (o : Option ℕ) (limit : ℕ) (t : Tree) → Begins b (Map o) inside → Stands b t rest → depth t ≤ limit → P t → Children Q (λ n. 2 * n) o limit inside rest
  map_children b inside rest o limit (map ps) s f d p =
      let w = around_parts Map map_same b f.spelling inside rest o (pair_count ps) (λ inner. SpellsPairs inner ps) f.spells f.whole s in
      let l : depth_pairs ps ≡ depth_all (flat ps) = unflat_depth ps in
      record { trees = flat ps; length = pair_count ps; inner = w.0; spells = flat_spells ps w.0 w.1; deep = omega arith; have = inherited.of_map ps p; count = flat_count ps; held = w.2 }
  map_children b inside rest o limit t s f d p = absurd (let k : 4 ≡ tree_kind t = sym (kind_map o) ∙ kind_at b inside rest (Map o) t s f in omega arith)

  -- what holds of all children holds of the one after those that were read
  next_child : (done ts : Trees) (a at inner behind : List ℕ) (limit : ℕ) → SpellsAll a done → SpellsAll inner ts → a ++ at ≡ inner ++ behind
      → More (tree_count done) (tree_count ts) at behind → depth_all ts ≤ limit → Q ts → Standing P at limit behind
  unfolding More
  next_child no_trees no_trees a at inner behind limit p q e (inl l) d m = absurd (omega arith)
  next_child no_trees no_trees a at inner behind limit p q e (inr (inl ne, w)) d m = absurd (ne refl)
  next_child no_trees no_trees a at inner behind limit p q e (inr (inr not, (w, f))) d m = absurd (not w (ap (λ z. z ++ at) (sym p) ∙ e ∙ ap (λ z. z ++ behind) q ∙ f))
  next_child no_trees (one_more t ts) a at inner behind limit p q e more d m = record {
    tree = t;
    rest = q.1 ++ behind;
    there = record { spelling = q.0; whole = ap (λ z. z ++ at) (sym p) ∙ e ∙ regroup inner q.0 q.1 behind q.4; spells = q.2 };
    shallow = omega arith;
    has = (inherited.of_items t ts m).0;
    last = no_more q.1 behind;
  }
  next_child (one_more x xs) no_trees a at inner behind limit p q e (inl l) d m = absurd (omega arith)
  next_child (one_more x xs) no_trees a at inner behind limit p q e (inr (not, (w, f))) d m =
      absurd (no_break x p.0 (p.1 ++ at) w p.2 (sym (regroup a p.0 p.1 at p.4) ∙ e ∙ ap (λ z. z ++ behind) q ∙ f))
  next_child (one_more x xs) (one_more t ts) a at inner behind limit p q e more d m =
      let e' : p.0 ++ (p.1 ++ at) ≡ q.0 ++ (q.1 ++ behind) = sym (regroup a p.0 p.1 at p.4) ∙ e ∙ regroup inner q.0 q.1 behind q.4 in
      let h = once x t p.0 q.0 (p.1 ++ at) (q.1 ++ behind) p.2 q.2 e' in
      let e'' : p.1 ++ at ≡ q.1 ++ behind = append_cancel_left p.0 (p.1 ++ at) (q.1 ++ behind) (e' ∙ ap (λ z. z ++ (q.1 ++ behind)) (sym h.1)) in
      next_child xs ts p.1 at q.1 behind limit p.3 q.3 e'' (fewer_more (tree_count xs) (tree_count ts) at behind more) (omega arith) (inherited.of_items t ts m).1

  due_child : (total : ℕ → ℕ) (o : Option ℕ) (limit : ℕ) (inside at rest : List ℕ) (done : Trees) → Children Q total o limit inside rest → Fronts inside (limit - 1) done at → Wanted total o (tree_count done) at
      → Standing P at (limit - 1) rest
  due_child total o limit inside at rest done c f w =
      let p = f.reads in
      let n : tree_count p.trees ≡ tree_count done = all_count p.trees done p.means in
      let m = wanted_more total o c.length (tree_count c.trees) (tree_count p.trees) at c.inner inside rest c.count c.held (subst (λ (z : ℕ). Wanted total o z at) (sym n) w) in
      let d : depth_all c.trees < limit = c.deep in
      let w = next_child p.trees c.trees f.spelling at c.inner m.0 (limit - 1) p.spells c.spells (sym f.whole ∙ m.1) m.2 (omega arith) c.have in
      record { tree = w.tree; rest = w.rest; there = w.there; shallow = w.shallow; has = w.has; last = λ e. m.3 (w.last e) }

  -- a tag that opens a level is over an item of fewer
  pub level_there : (b inside rest : List ℕ) (n limit : ℕ) (t : Tree) → Begins b (Tag n) inside → IsLevel n inside → Stands b t rest → depth t ≤ limit → P t → (0 < limit) × Standing P inside (limit - 1) rest
  level_there b inside rest n limit t s l f d p =
      let w = tag_parts b inside rest n t s f in
      let deep : suc (depth w.under) ≤ limit = level_deep n limit inside rest w.under l w.at (subst (λ (z : Tree). depth z ≤ limit) w.is d) in
      (omega arith, record { tree = w.under; rest = rest; there = w.at; shallow = omega arith; has = inherited.of_tag n w.under (subst P w.is p); last = λ e. e })

  -- if an item is there, each child that is due is there too
  pub child_there : (b inside at rest : List ℕ) (limit : ℕ) (h : Header) (done : Trees) (t : Tree) → Begins b h inside → Fronts inside (limit - 1) done at → Due done at h → Stands b t rest → depth t ≤ limit → P t
      → Standing P at (limit - 1) rest
  child_there b inside at rest limit _ done t s fs (in_array n l) f d p = due_child (λ n. n) (Some n) limit inside at rest done (array_children b inside rest (Some n) limit t s f d p) fs l
  child_there b inside at rest limit _ done t s fs (in_map n l) f d p = due_child (λ n. 2 * n) (Some n) limit inside at rest done (map_children b inside rest (Some n) limit t s f d p) fs l
  child_there b inside at rest limit _ done t s fs (in_open_array not) f d p = due_child (λ n. n) None limit inside at rest done (array_children b inside rest None limit t s f d p) fs (inr not)
  child_there b inside at rest limit _ done t s fs (in_open_map not) f d p = due_child (λ n. 2 * n) None limit inside at rest done (map_children b inside rest None limit t s f d p) fs (inr not)
  child_there b inside at rest limit _ done t s fs (in_entry odd) f d p =
      due_child (λ n. 2 * n) None limit inside at rest done (map_children b inside rest None limit t s f d p) fs (inl (λ m. odd_no (tree_count done) m odd))
  child_there b inside at rest limit _ done t s fs (under_tag n none l) f d p =
      let same : inside ≡ at = fs.whole ∙ ap (λ z. z ++ at) (none_read fs.spelling (limit - 1) done none fs.reads) in
      subst (λ (z : List ℕ). Standing P z (limit - 1) rest) same (level_there b inside rest n limit t s (subst (IsLevel n) (sym same) l) f d p).1

  -- a tag that opens no level
  pub free_there : (b inside rest : List ℕ) (n limit : ℕ) (t : Tree) → Begins b (Tag n) inside → Stands b t rest → depth t ≤ limit → P t → Standing P inside limit rest
  free_there b inside rest n limit t s f d p =
      let w = tag_parts b inside rest n t s f in
      record { tree = w.under; rest = rest; there = w.at; shallow = under_depth n limit w.under (subst (λ (z : Tree). depth z ≤ limit) w.is d); has = inherited.of_tag n w.under (subst P w.is p); last = λ e. e }

  -- an array or a map that is there has a level
  pub array_deep : (b r rest : List ℕ) (o : Option ℕ) (limit : ℕ) (t : Tree) → Begins b (Array o) r → Stands b t rest → depth t ≤ limit → P t → 0 < limit
  array_deep b r rest o limit t s f d p = let c = array_children b r rest o limit t s f d p in omega (arith, c.deep)

  pub map_deep : (b r rest : List ℕ) (o : Option ℕ) (limit : ℕ) (t : Tree) → Begins b (Map o) r → Stands b t rest → depth t ≤ limit → P t → 0 < limit
  map_deep b r rest o limit t s f d p = let c = map_children b r rest o limit t s f d p in omega (arith, c.deep)
