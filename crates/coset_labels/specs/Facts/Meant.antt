-- A meaning nests no deeper than the tree that means it.
use Rattle.std.proofs.Common.{◌≡◌, ℕ, ℤ, ◌≤◌, ◌⊎◌, suc, inl, inr, List, Bool, true, false, cond, Option, Some, None, option_map, option_and_then, refl, sym, ap, subst, ◌∙◌, arith}
use Rattle.std.specs.Prelude.{nat_eq, nat_lt, nat_le, ◌||◌, ◌&&◌, pos, negsuc, length}
use Rattle.ciborium_value.specs.Tree.{Tree, integer, bytes, text, array, map as map_tree, tag, simple, float, Trees, no_trees, one_more, Pairs, no_pairs, pair_more, depth, depth_all, depth_pairs, opens_none, is_bytes}
use Rattle.ciborium_value.specs.Folding.{tagged, fold_number, big_endian_from, without_zeros}
use Rattle.ciborium.specs.Meaning.{meaning, meanings, pair_meanings, simple_meaning}
use Rattle.ciborium.proofs.Folded.{pairs_parts}
use Rattle.ciborium.proofs.ReadLemmas.{meanings_parts}

number_kind : (n m : ℕ) (b : List ℕ) (v : Tree) → fold_number n m b ≡ Some v → ((z : ℤ) × (v ≡ integer z)) ⊎ ((c : List ℕ) × (v ≡ tag n (bytes c)))
number_kind n m b v e = go (nat_lt m 18446744073709551616) (nat_eq n 3 && nat_le 170141183460469231731687303715884105728 m) e
  where
    go : (p q : Bool) → cond p (Some (integer (cond (nat_eq n 2) (pos m) (negsuc m)))) (cond q None (Some (tag n (bytes (without_zeros b))))) ≡ Some v → ((z : ℤ) × (v ≡ integer z)) ⊎ ((c : List ℕ) × (v ≡ tag n (bytes c)))
    go true q e = inl (_, (let f : v ≡ integer (cond (nat_eq n 2) (pos m) (negsuc m)) = cc in f))
    go false true e = let f : None ≡ Some v = e in absurd (let g : ⊥ = cc in g)
    go false false e = inr (_, (let f : v ≡ tag n (bytes (without_zeros b)) = cc in f))

bytes_kind : (n : ℕ) (b : List ℕ) (v : Tree) → tagged n (bytes b) ≡ Some v → ((z : ℤ) × (v ≡ integer z)) ⊎ ((c : List ℕ) × (v ≡ tag n (bytes c)))
bytes_kind n b v e = go (nat_eq n 2 || nat_eq n 3) (nat_le (length b) 16) e
  where
    go : (p q : Bool) → cond p (cond q (fold_number n (big_endian_from 0 b) b) (Some (tag n (bytes b)))) (Some (tag n (bytes b))) ≡ Some v → ((z : ℤ) × (v ≡ integer z)) ⊎ ((c : List ℕ) × (v ≡ tag n (bytes c)))
    go true true e = number_kind n (big_endian_from 0 b) b v e
    go true false e = inr (b, (let f : v ≡ tag n (bytes b) = cc in f))
    go false q e = inr (b, (let f : v ≡ tag n (bytes b) = cc in f))

low : (c : Bool) (d : ℕ) → cond c 0 (suc d) ≤ suc d
low true d = omega arith
low false d = omega arith

bytes_low : (n : ℕ) (b : List ℕ) (v : Tree) → ((z : ℤ) × (v ≡ integer z)) ⊎ ((c : List ℕ) × (v ≡ tag n (bytes c))) → depth v ≤ depth (tag n (bytes b))
bytes_low n b v (inl (z, e)) = subst (λ (t : Tree). depth t ≤ depth (tag n (bytes b))) (sym e) (omega arith)
bytes_low n b v (inr (c, e)) = subst (λ (t : Tree). depth t ≤ depth (tag n (bytes b))) (sym e) (omega arith)

bytes_low_all : (n : ℕ) (v : Tree) → ((z : ℤ) × (v ≡ integer z)) ⊎ ((c : List ℕ) × (v ≡ tag n (bytes c))) → depth v ≤ suc 0
bytes_low_all n v (inl (z, e)) = subst (λ (t : Tree). depth t ≤ suc 0) (sym e) (omega arith)
bytes_low_all n v (inr (c, e)) = subst (λ (t : Tree). depth t ≤ suc 0) (sym e) (low (opens_none n (bytes c)) 0)

tag_low : (n : ℕ) (u v : Tree) → Some (tag n u) ≡ Some v → depth v ≤ suc (depth u)
tag_low n u v e = let f : tag n u ≡ v = cc in subst (λ (t : Tree). depth t ≤ suc (depth u)) f (low (opens_none n u) (depth u))

tagged_low : (n : ℕ) (u v : Tree) → tagged n u ≡ Some v → depth v ≤ suc (depth u)
tagged_low n (bytes b) v e = bytes_low_all n v (bytes_kind n b v e)
tagged_low n (integer i) v e = tag_low n (integer i) v e
tagged_low n (text b) v e = tag_low n (text b) v e
tagged_low n (array ts) v e = tag_low n (array ts) v e
tagged_low n (map_tree ps) v e = tag_low n (map_tree ps) v e
tagged_low n (tag k t) v e = tag_low n (tag k t) v e
tagged_low n (simple k) v e = tag_low n (simple k) v e
tagged_low n (float f) v e = tag_low n (float f) v e

and_false : (b : Bool) → (b && false) ≡ false
and_false true = refl
and_false false = refl

opened : (n : ℕ) (t : Tree) → is_bytes t ≡ false → depth (tag n t) ≡ suc (depth t)
opened n t e = ap (λ c. cond c 0 (suc (depth t))) (ap (λ c. (nat_eq n 2 || nat_eq n 3) && c) e ∙ and_false (nat_eq n 2 || nat_eq n 3))

tag_split : (n : ℕ) (o : Option Tree) (v : Tree) → option_and_then (tagged n) o ≡ Some v → (u : Tree) × (o ≡ Some u) × (tagged n u ≡ Some v)
tag_split n None v e = let f : None ≡ Some v = e in absurd (let g : ⊥ = cc in g)
tag_split n (Some u) v e = (u, refl, e)

level : (n : ℕ) (t u v : Tree) → is_bytes t ≡ false → depth u ≤ depth t → tagged n u ≡ Some v → depth v ≤ depth (tag n t)
level n t u v b l e = let h = tagged_low n u v e in let o = opened n t b in omega (arith, h, o, l)

pub array_split : (o : Option Trees) (v : Tree) → option_map array o ≡ Some v → (vs : Trees) × (o ≡ Some vs) × (v ≡ array vs)
array_split None v e = let f : None ≡ Some v = e in absurd (let g : ⊥ = cc in g)
array_split (Some vs) v e = (vs, refl, (let f : v ≡ array vs = cc in f))

pub map_split : (o : Option Pairs) (v : Tree) → option_map map_tree o ≡ Some v → (vs : Pairs) × (o ≡ Some vs) × (v ≡ map_tree vs)
map_split None v e = let f : None ≡ Some v = e in absurd (let g : ⊥ = cc in g)
map_split (Some vs) v e = (vs, refl, (let f : v ≡ map_tree vs = cc in f))

leaf_low : (t v : Tree) (n : ℕ) → depth t ≡ 0 → Some t ≡ Some v → depth v ≤ n
leaf_low t v n z e = let f : t ≡ v = cc in let g = ap depth f in omega (arith, g, z)

simple_low : (n : ℕ) (v : Tree) → simple_meaning n ≡ Some v → depth v ≤ 0
simple_low n v e = go (nat_eq n 23) (nat_le 20 n && nat_le n 22) e
  where
    go : (p q : Bool) → cond p (Some (simple 22)) (cond q (Some (simple n)) None) ≡ Some v → depth v ≤ 0
    go true q e = leaf_low (simple 22) v 0 refl e
    go false true e = leaf_low (simple n) v 0 refl e
    go false false e = let f : None ≡ Some v = e in absurd (let g : ⊥ = cc in g)

tag_meant : (n : ℕ) (t u v : Tree) → depth u ≤ depth t → meaning t ≡ Some u → tagged n u ≡ Some v → depth v ≤ depth (tag n t)
tag_meant n (bytes b) u v l m e =
    let f : bytes b ≡ u = (let g : Some (bytes b) ≡ Some u = m in cc) in
    bytes_low n b v (bytes_kind n b v (ap (tagged n) f ∙ e))
tag_meant n (integer i) u v l m e = level n (integer i) u v refl l e
tag_meant n (text b) u v l m e = level n (text b) u v refl l e
tag_meant n (array ts) u v l m e = level n (array ts) u v refl l e
tag_meant n (map_tree ps) u v l m e = level n (map_tree ps) u v refl l e
tag_meant n (tag k t) u v l m e = level n (tag k t) u v refl l e
tag_meant n (simple k) u v l m e = level n (simple k) u v refl l e
tag_meant n (float f) u v l m e = level n (float f) u v refl l e

mutual
  pub meant : (t v : Tree) → meaning t ≡ Some v → depth v ≤ depth t
  meant (integer i) v e = leaf_low (integer i) v 0 refl e
  meant (bytes b) v e = leaf_low (bytes b) v 0 refl e
  meant (text b) v e = leaf_low (text b) v 0 refl e
  meant (float f) v e = leaf_low (float f) v 0 refl e
  meant (simple n) v e = simple_low n v e
  meant (array ts) v e = let w = array_split (meanings ts) v e in let h = all_meant ts w.0 w.1 in let g = ap depth w.2 in omega (arith, h, g)
  meant (map_tree ps) v e = let w = map_split (pair_meanings ps) v e in let h = pairs_meant ps w.0 w.1 in let g = ap depth w.2 in omega (arith, h, g)
  meant (tag n t) v e = let w = tag_split n (meaning t) v e in tag_meant n t w.0 v (meant t w.0 w.1) w.1 w.2

  all_meant : (ts vs : Trees) → meanings ts ≡ Some vs → depth_all vs ≤ depth_all ts
  all_meant no_trees vs e = let f : no_trees ≡ vs = (let g : Some no_trees ≡ Some vs = e in cc) in let h = ap depth_all f in omega (arith, h)
  all_meant (one_more t ts) vs e =
      let w = meanings_parts t ts vs e in
      let h = meant t w.0 w.2 in let g = all_meant ts w.1 w.3 in let f = ap depth_all w.4 in omega (arith, h, g, f)

  pairs_meant : (ps vs : Pairs) → pair_meanings ps ≡ Some vs → depth_pairs vs ≤ depth_pairs ps
  pairs_meant no_pairs vs e = let f : no_pairs ≡ vs = (let g : Some no_pairs ≡ Some vs = e in cc) in let h = ap depth_pairs f in omega (arith, h)
  pairs_meant (pair_more k v ps) vs e =
      let w = pairs_parts k v ps vs e in
      let h = meant k w.0 w.3 in let g = meant v w.1 w.4 in let r = pairs_meant ps w.2 w.5 in let f = ap depth_pairs w.6 in omega (arith, h, g, r, f)
