-- The elements of an array, some after others.
use Rattle.std.proofs.Common.{◌≡◌, ◌≤◌, ◌+◌, ◌⊎◌, inl, inr, ℕ, List, ◌∷◌, ◌++◌, Option, None, Some, refl, sym, ap, ◌∙◌, arith}
use Rattle.std.specs.Prelude.{option_map, option_and_then}
use Rattle.std.proofs.lemmas.List.{append_cancel_left}
use Rattle.ciborium_ll.specs.declared.hdr.Header.TheVariants.{Array}
use Rattle.ciborium_ll.specs.Title.{Begins}
use Rattle.ciborium_value.specs.Tree.{Tree, array, tag, Trees, no_trees, one_more, tree_count}
use Rattle.ciborium_value.specs.Folding.{tagged}
use Rattle.ciborium.specs.Spelling.{SpellsAll}
use Rattle.ciborium.specs.Meaning.{meanings}
use Rattle.ciborium.proofs.Once.{once, no_break, regroup, tree_kind, array_same}
use Rattle.ciborium.proofs.Parts.{Stands, Held, kind_at, kind_array, around_parts}
use Rattle.ciborium.proofs.ReadLemmas.{meanings_parts}

-- elements and more
abbrev pub append : Trees → Trees → Trees
append no_trees more = more
append (one_more t ts) more = one_more t (append ts more)

pub append_count : (ts more : Trees) → tree_count (append ts more) ≡ tree_count ts + tree_count more
append_count no_trees more = omega arith
append_count (one_more t ts) more = let k = append_count ts more in omega arith

-- the elements of an array that is at the front
pub record Items (o : Option ℕ) (under : Tree) (items after : List ℕ) : Type 0 where
  pub trees : Trees
  pub is : under ≡ array trees
  pub inner : List ℕ
  pub spells : SpellsAll inner trees
  pub held : Held o (tree_count trees) inner items after

pub array_items : (inside items after : List ℕ) (o : Option ℕ) (under : Tree) → Begins inside (Array o) items → Stands inside under after → Items o under items after
array_items inside items after o (array ts) s st =
    let p = around_parts Array array_same inside st.spelling items after o (tree_count ts) (λ (b : List ℕ). SpellsAll b ts) st.spells st.whole s in
    record { trees = ts; is = refl; inner = p.0; spells = p.1; held = p.2 }
array_items inside items after o t s st = absurd (let k : 3 ≡ tree_kind t = sym (kind_array o) ∙ kind_at inside items after (Array o) t s st in omega arith)

-- no more elements are read than there are
abbrev pub Enough : ℕ → ℕ → List ℕ → Type 0
Enough n m behind = (n ≤ m) ⊎ ((w : List ℕ) × (behind ≡ 255 ∷ w))

pub record Split (ds ts : Trees) (rest behind : List ℕ) : Type 0 where
  pub more : Trees
  pub inner : List ℕ
  pub is : ts ≡ append ds more
  pub spells : SpellsAll inner more
  pub whole : rest ≡ inner ++ behind

pub split_items : (ds ts : Trees) (a rest c behind : List ℕ) → SpellsAll a ds → SpellsAll c ts → a ++ rest ≡ c ++ behind → Enough (tree_count ds) (tree_count ts) behind → Split ds ts rest behind
split_items no_trees ts a rest c behind p q e n = record { more = ts; inner = c; is = refl; spells = q; whole = ap (λ z. z ++ rest) (sym p) ∙ e }
split_items (one_more d ds) no_trees a rest c behind p q e (inl n) = absurd (omega arith)
split_items (one_more d ds) no_trees a rest c behind p q e (inr (w, f)) = absurd (no_break d p.0 (p.1 ++ rest) w p.2 (sym (regroup a p.0 p.1 rest p.4) ∙ e ∙ ap (λ z. z ++ behind) q ∙ f))
split_items (one_more d ds) (one_more t ts) a rest c behind p q e n =
    let e' : p.0 ++ (p.1 ++ rest) ≡ q.0 ++ (q.1 ++ behind) = sym (regroup a p.0 p.1 rest p.4) ∙ e ∙ regroup c q.0 q.1 behind q.4 in
    let h = once d t p.0 q.0 (p.1 ++ rest) (q.1 ++ behind) p.2 q.2 e' in
    let e'' : p.1 ++ rest ≡ q.1 ++ behind = append_cancel_left p.0 (p.1 ++ rest) (q.1 ++ behind) (e' ∙ ap (λ z. z ++ (q.1 ++ behind)) (sym h.1)) in
    let r = split_items ds ts p.1 rest q.1 behind p.3 q.3 e'' (fewer n) in
    record { more = r.more; inner = r.inner; is = ap (λ z. one_more z ts) (sym h.0) ∙ ap (one_more d) r.is; spells = r.spells; whole = r.whole }
  where
    fewer : Enough (tree_count (one_more d ds)) (tree_count (one_more t ts)) behind → Enough (tree_count ds) (tree_count ts) behind
    fewer (inl n) = inl (omega arith)
    fewer (inr w) = inr w

pub meanings_append : (us more vs done : Trees) → meanings (append us more) ≡ Some vs → meanings us ≡ Some done → (ms : Trees) × (meanings more ≡ Some ms) × (vs ≡ append done ms)
meanings_append no_trees more vs done e f = let k : Some no_trees ≡ Some done = f in let l : no_trees ≡ done = cc in (vs, e, ap (λ z. append z vs) l)
meanings_append (one_more u us) more vs done e f =
    let x = meanings_parts u (append us more) vs e in
    let y = meanings_parts u us done f in
    let r = meanings_append us more x.1 y.1 x.3 y.3 in
    let k : Some x.0 ≡ Some y.0 = sym x.2 ∙ y.2 in
    let l : x.0 ≡ y.0 = cc in
    (r.0, r.1, x.4 ∙ ap (λ z. one_more z x.1) l ∙ ap (one_more y.0) r.2 ∙ ap (λ z. append z r.0) (sym y.4))

pub tag_means : (n : ℕ) (o : Option Trees) (t : Tree) → option_and_then (tagged n) (option_map array o) ≡ Some t → (vs : Trees) × (o ≡ Some vs) × (t ≡ tag n (array vs))
tag_means n None t e = cc
tag_means n (Some vs) t e = let k : Some (tag n (array vs)) ≡ Some t = e in let l : tag n (array vs) ≡ t = cc in (vs, refl, sym l)

-- what is after two items
pub behind_two : (xs ys : Trees) (third after : List ℕ) (a c : List ℕ) → SpellsAll a xs → SpellsAll c ys → tree_count xs ≡ 2 → tree_count ys ≡ 2 → a ++ third ≡ c ++ after → third ≡ after
behind_two xs ys third after a c p q n m e =
    let s = split_items xs ys a third c after p q e (inl (omega arith)) in
    go s.more s.inner s.spells s.whole (let z = append_count xs s.more in let w : tree_count ys ≡ tree_count (append xs s.more) = ap tree_count s.is in omega arith)
  where
    go : {third behind : List ℕ} (more : Trees) (inner : List ℕ) → SpellsAll inner more → third ≡ inner ++ behind → tree_count more ≡ 0 → third ≡ behind
    go {third} {behind} no_trees inner p e z = e ∙ ap (λ x. x ++ behind) p
    go (one_more x xs) inner p e z = absurd (omega arith)
