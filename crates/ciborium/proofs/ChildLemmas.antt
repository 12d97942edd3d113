-- Arrays, maps and tags that are read, and faults among their children.
use Rattle.std.proofs.Common.{◌≡◌, ◌≢◌, ◌≤◌, ◌<◌, ◌+◌, ◌-◌, ◌*◌, inl, inr, ℕ, max, Bool, true, false, List, [], ◌∷◌, ◌++◌, length, Option, None, Some, refl, sym, ap, subst, ◌∙◌, arith, nat_eq}
use Rattle.std.specs.Option.{option_map, option_and_then}
use Rattle.std.proofs.lemmas.Bool.Decides.{nat_tests}
use Rattle.std.proofs.lemmas.Bool.{false≢true}
use Rattle.ciborium_ll.specs.Reading.{Moves}
use Rattle.ciborium_ll.specs.declared.hdr.Header.{Header}
use Rattle.ciborium_ll.specs.declared.hdr.Header.TheVariants.{Break, Array, Map}
use Rattle.ciborium_ll.specs.Title.{Title, IsCut, StartsBad}
use Rattle.ciborium_ll.proofs.TitleLaws.{not_cut, not_bad}
use Rattle.ciborium.specs.declared.de.Error.{Error}
use Rattle.ciborium_value.specs.Tree.{Tree, array, bytes, tag, Trees, no_trees, one_more, Pairs, no_pairs, pair_more, flat, tree_count, pair_count, depth, depth_all, depth_pairs, opens_none}
use Rattle.ciborium.specs.Spelling.{SpellsAll, SpellsPairs}
use Rattle.ciborium_value.specs.Tree as spec
use Rattle.ciborium.specs.Meaning.{meaning, meanings, pair_meanings}
use Rattle.ciborium.specs.Damage.{Fault, TitleDamage, cut_title, bad_title, Due, in_array, in_map, in_open_array, in_open_map, in_entry}
use Rattle.ciborium.specs.Front.{ReadsAll}
use Rattle.ciborium_ll.specs.Title.{Begins}
use Rattle.ciborium.specs.Reading.{EndPlace, IsLong, FailsAt, FailsAfterTitle, IfKnown, ReadsAfterTitle, ChildrenAfterHead, is_full}
use Rattle.ciborium.proofs.Words.{FitsIn}
use Rattle.ciborium_ll.proofs.Closings.{break_title}
use Rattle.ciborium.proofs.Once.{title_once}
use Rattle.ciborium.proofs.Taking.{fails_as}
use Rattle.ciborium.proofs.ReadLemmas.{meanings_parts}

-- a fault after a title that was taken, which it tells
abbrev pub Begun : Header → (ℕ → List ℕ → Fault → Type 0) → ℕ → List ℕ → Fault → Type 0
Begun h D stop b f = ((r : List ℕ) × Begins b h r) × D stop b f

pub fails_begun : {E : Type 0} (ends : E → Bool) (l₀ l₁ : Option (List ℕ)) (o₀ o₁ o₂ : ℕ) (h : Header) (D : ℕ → List ℕ → Fault → Type 0) (e : Error E)
    → Moves l₀ l₁ o₀ o₁ (λ (b : List ℕ). Title b h) → FailsAfterTitle ends h o₀ o₁ l₁ o₂ D e → IfKnown l₀ (λ b. FailsAt ends b o₀ o₂ (Begun h D) e)
fails_begun ends None l₁ o₀ o₁ o₂ h D e t w = tt
fails_begun ends (Some b) None o₀ o₁ o₂ h D e t w = absurd t.taken
fails_begun ends (Some b) (Some rest) o₀ o₁ o₂ h D e t w =
    fails_as ends (EndPlace b o₀ o₂) (EndPlace b o₀ o₂) (D (o₀ + length b) b) (Begun h D (o₀ + length b) b) (IsLong o₀ b) (IsLong o₀ b) e (λ q. q) (λ f d. ((rest, record { title = t.bytes; is_title = t.has; whole = t.taken }), d)) (λ l. l)
    (subst (λ (z : List ℕ). FailsAt ends z o₀ o₂ D e) (sym t.taken) (w t.bytes t.has (sym t.grown)))

pub title_no_break : (stop : ℕ) (rest : List ℕ) (f : Fault) → TitleDamage stop rest f → (r : List ℕ) → rest ≢ 255 ∷ r
title_no_break stop rest _ (cut_title c) r e = not_cut (255 ∷ []) r Break break_title (subst IsCut e c)
title_no_break stop rest _ (bad_title p c _) r e = not_bad (255 ∷ []) r Break break_title (subst StartsBad e c)

pub begun_no_break : (h : Header) (rest q : List ℕ) → Begins rest h q → h ≢ Break → (r : List ℕ) → rest ≢ 255 ∷ r
begun_no_break h rest q s not r e = not (title_once s.title (255 ∷ []) q r h Break s.is_title break_title (sym s.whole ∙ e)).0

-- whether one more is due
pub not_all : (n d : ℕ) → nat_eq n d ≡ false → d ≤ n → d < n
not_all n d e l = grind (arith, nat_tests)

pub array_due : (o : Option ℕ) (vs : Trees) (d : ℕ) (rest : List ℕ) → tree_count vs ≡ d → FitsIn o d → is_full o d ≡ false → (o ≡ None → (r : List ℕ) → rest ≢ 255 ∷ r) → Due vs rest (Array o)
array_due (Some n) vs d rest c few full b = let l = not_all n d full few in in_array n (omega arith)
array_due None vs d rest c few full b = in_open_array (b refl)

pub map_due : (o : Option ℕ) (vs : Trees) (d : ℕ) (rest : List ℕ) → tree_count vs ≡ 2 * d → FitsIn o d → is_full o d ≡ false → (o ≡ None → (r : List ℕ) → rest ≢ 255 ∷ r) → Due vs rest (Map o)
map_due (Some n) vs d rest c few full b = let l = not_all n d full few in in_map n (omega arith)
map_due None vs d rest c few full b = in_open_map (b refl)

pub value_due : (o : Option ℕ) (vs : Trees) (d : ℕ) (rest : List ℕ) → tree_count vs ≡ 2 * d + 1 → FitsIn o d → is_full o d ≡ false → Due vs rest (Map o)
value_due (Some n) vs d rest c few full = let l = not_all n d full few in in_map n (omega arith)
value_due None vs d rest c few full = in_entry (omega arith)

pub fits_more : (o : Option ℕ) (d : ℕ) → FitsIn o d → is_full o d ≡ false → FitsIn o (d + 1)
fits_more (Some n) d few full = let l = not_all n d full few in omega arith
fits_more None d few full = tt

pub fits_none : (o : Option ℕ) → FitsIn o 0
fits_none (Some n) = omega arith
fits_none None = tt

-- all children are there
all_is : (n d : ℕ) → nat_eq n d ≡ true → n ≡ d
all_is n d e = grind (arith, nat_tests)

pub children_full : (o : Option ℕ) (d limit : ℕ) (vs : Trees) (inner : List ℕ) → is_full o d ≡ true → ReadsAll inner limit vs → ChildrenAfterHead o d limit vs inner
children_full (Some n) d limit vs inner e p = (all_is n d e, p)
children_full None d limit vs inner e p = absurd (false≢true e)

pub children_closed : (o : Option ℕ) (d limit : ℕ) (vs : Trees) (x y : List ℕ) (h : Header) → (o ≡ None) × (h ≡ Break) → ReadsAll x limit vs → Title y h → ChildrenAfterHead o d limit vs (x ++ y)
children_closed (Some n) d limit vs x y h e p t = let f : Some n ≡ None = e.0 in cc
children_closed None d limit vs x y h e p t = let s : Title y Break = subst (λ (z : Header). Title y z) e.1 t in (x, p, ap (λ z. x ++ z) s)

-- an array from its children
pub all_count : (ts vs : Trees) → meanings ts ≡ Some vs → tree_count ts ≡ tree_count vs
all_count no_trees vs e = let f : no_trees ≡ vs = cc in ap tree_count f
all_count (one_more t ts) vs e = let w = meanings_parts t ts vs e in let h = all_count ts w.1 w.3 in let k : tree_count vs ≡ 1 + tree_count w.1 = ap tree_count w.4 in omega arith

none_trees : (ts : Trees) (b : List ℕ) → tree_count ts ≡ 0 → SpellsAll b ts → b ≡ []
none_trees no_trees b e p = p
none_trees (one_more t ts) b e p = let f : 1 + tree_count ts ≡ 0 = e in absurd (omega arith)

-- no items take no bytes
pub none_read : (b : List ℕ) (low : ℕ) (done : Trees) → done ≡ no_trees → ReadsAll b low done → b ≡ []
none_read b low done e p = none_trees p.trees b (all_count p.trees done p.means ∙ ap tree_count e) p.spells

pub array_read : (o : Option ℕ) (d limit : ℕ) (v : Tree) (vs : Trees) (inner : List ℕ) → v ≡ array vs → tree_count vs ≡ d → 0 < limit → ChildrenAfterHead o d (limit - 1) vs inner → ReadsAfterTitle (Array o) limit v inner
array_read (Some n) d limit v vs inner e c l p title t = record {
  tree = array p.1.trees;
  spells = inl (title, inner, subst (λ (z : ℕ). Title title (Array (Some z))) (p.0 ∙ sym c ∙ sym (all_count p.1.trees vs p.1.means)) t, p.1.spells, refl);
  shallow = let h = p.1.shallow in omega arith;
  means = ap (option_map array) p.1.means ∙ ap Some (sym e);
}
array_read None d limit v vs inner e c l p title t = record {
  tree = array p.1.trees;
  spells = inr (title, p.0, t, p.1.spells, ap (λ z. title ++ z) p.2);
  shallow = let h = p.1.shallow in omega arith;
  means = ap (option_map array) p.1.means ∙ ap Some (sym e);
}

-- pairs from their keys and values in order
record Paired (ts : Trees) (ps : Pairs) : Type 0 where
  pub pairs : Pairs
  pub flat_is : ts ≡ flat pairs
  pub means : pair_meanings pairs ≡ Some ps

pub pairs_made : (k v a b : Tree) (qs ps : Pairs) → meaning k ≡ Some a → meaning v ≡ Some b → pair_meanings qs ≡ Some ps → pair_meanings (pair_more k v qs) ≡ Some (pair_more a b ps)
pairs_made k v a b qs ps x y z =
    ap (option_and_then (λ a. option_and_then (λ b. option_map (pair_more a b) (pair_meanings qs)) (meaning v))) x ∙ ap (option_and_then (λ b. option_map (pair_more a b) (pair_meanings qs))) y ∙ ap (option_map (pair_more a b)) z

paired : (ts : Trees) (ps : Pairs) → meanings ts ≡ Some (flat ps) → Paired ts ps
paired no_trees no_pairs e = record { pairs = no_pairs; flat_is = refl; means = refl }
paired no_trees (pair_more k v ps) e = let f : no_trees ≡ one_more k (one_more v (flat ps)) = cc in cc
paired (one_more t ts) no_pairs e = let w = meanings_parts t ts no_trees e in let f = w.4 in cc
paired (one_more t no_trees) (pair_more k v ps) e =
    let w = meanings_parts t no_trees (flat (pair_more k v ps)) e in
    let f : no_trees ≡ w.1 = let g = w.3 in cc in let h : one_more k (one_more v (flat ps)) ≡ one_more w.0 w.1 = w.4 in cc
paired (one_more t (one_more s ts)) (pair_more k v ps) e =
    let w = meanings_parts t (one_more s ts) (flat (pair_more k v ps)) e in
    let h : one_more k (one_more v (flat ps)) ≡ one_more w.0 w.1 = w.4 in
    let h0 : w.0 ≡ k = cc in
    let h1 : w.1 ≡ one_more v (flat ps) = cc in
    let x = meanings_parts s ts w.1 w.3 in
    let i : one_more v (flat ps) ≡ one_more x.0 x.1 = sym h1 ∙ x.4 in
    let i0 : x.0 ≡ v = cc in
    let i1 : x.1 ≡ flat ps = cc in
    let r = paired ts ps (x.3 ∙ ap Some i1) in
    record { pairs = pair_more t s r.pairs; flat_is = ap (λ z. one_more t (one_more s z)) r.flat_is; means = pairs_made t s k v r.pairs ps (w.2 ∙ ap Some h0) (x.2 ∙ ap Some i0) r.means }

unflat_spells : (qs : Pairs) (b : List ℕ) → SpellsAll b (flat qs) → SpellsPairs b qs
unflat_spells no_pairs b p = p
unflat_spells (pair_more k v qs) b p =
    (p.0, p.3.0, p.3.1, p.2, p.3.2, unflat_spells qs p.3.1 p.3.3, p.4 ∙ ap (λ z. p.0 ++ z) p.3.4)

pub unflat_depth : (qs : Pairs) → depth_pairs qs ≡ depth_all (flat qs)
unflat_depth no_pairs = refl
unflat_depth (pair_more k v qs) = ap (λ z. max (depth k) (max (depth v) z)) (unflat_depth qs)

pub flat_count : (qs : Pairs) → tree_count (flat qs) ≡ 2 * pair_count qs
flat_count no_pairs = refl
flat_count (pair_more k v qs) = let h = flat_count qs in omega arith

pub map_read : (o : Option ℕ) (d limit : ℕ) (v : Tree) (ps : Pairs) (inner : List ℕ) → v ≡ spec.map ps → tree_count (flat ps) ≡ 2 * d → 0 < limit → ChildrenAfterHead o d (limit - 1) (flat ps) inner → ReadsAfterTitle (Map o) limit v inner
map_read (Some n) d limit v ps inner e c l p title t =
    let q = paired p.1.trees ps p.1.means in
    let count : n ≡ pair_count q.pairs = omega (arith, p.0, c, all_count p.1.trees (flat ps) p.1.means, ap tree_count q.flat_is, flat_count q.pairs) in
    let deepest : depth_pairs q.pairs ≤ limit - 1 = omega (arith, p.1.shallow, ap depth_all q.flat_is, unflat_depth q.pairs) in
    record {
      tree = spec.map q.pairs;
      spells = inl (title, inner, subst (λ (z : ℕ). Title title (Map (Some z))) count t, unflat_spells q.pairs inner (subst (λ (z : Trees). SpellsAll inner z) q.flat_is p.1.spells), refl);
      shallow = omega arith;
      means = ap (option_map spec.map) q.means ∙ ap Some (sym e);
    }
map_read None d limit v ps inner e c l p title t =
    let q = paired p.1.trees ps p.1.means in
    let deepest : depth_pairs q.pairs ≤ limit - 1 = omega (arith, p.1.shallow, ap depth_all q.flat_is, unflat_depth q.pairs) in
    record {
      tree = spec.map q.pairs;
      spells = inr (title, p.0, t, unflat_spells q.pairs p.0 (subst (λ (z : Trees). SpellsAll p.0 z) q.flat_is p.1.spells), ap (λ z. title ++ z) p.2);
      shallow = omega arith;
      means = ap (option_map spec.map) q.means ∙ ap Some (sym e);
    }
