-- A meaning is folded, means itself, and has assigned simple values alone. If simple values are
-- assigned, a meaning is a folding.
use Rattle.std.proofs.Common.{◌≡◌, ◌≤◌, ℕ, pos, negsuc, Bool, true, false, cond, List, length, Option, None, Some, refl, sym, ap, subst, ◌∙◌, arith, nat_eq, nat_lt, nat_le, ◌&&◌, ◌||◌}
use Rattle.std.specs.Option.{option_map, option_and_then}
use Rattle.std.proofs.lemmas.Bool.Decides.{nat_tests}
use Rattle.ciborium_value.specs.Tree.{Tree, integer, bytes, text, array, map, tag, simple, float, Trees, no_trees, one_more, Pairs, no_pairs, pair_more}
use Rattle.ciborium_value.specs.Folding.{tagged, fold_bytes, fold_number, big_endian_from, without_zeros, fold, fold_all_by, fold_pairs_by}
use Rattle.ciborium_value.proofs.Folded.{folded}
use Rattle.ciborium.specs.Meaning.{meaning, meanings, pair_meanings, simple_meaning, Assigned, AllAssigned, PairsAssigned}
use Rattle.ciborium.proofs.ReadLemmas.{meanings_parts}

-- what a simple value means
simple_again : (n : ℕ) (v : Tree) → simple_meaning n ≡ Some v → meaning v ≡ Some v
simple_again n v e = go (nat_eq n 23) (nat_le 20 n && nat_le n 22) refl refl e
  where
    go : (p q : Bool) → nat_eq n 23 ≡ p → (nat_le 20 n && nat_le n 22) ≡ q → cond p (Some (simple 22)) (cond q (Some (simple n)) None) ≡ Some v → meaning v ≡ Some v
    go true q a b e = let f : simple 22 ≡ v = cc in subst (λ (z : Tree). meaning z ≡ Some z) f refl
    go false true a b e = let f : simple n ≡ v = cc in subst (λ (z : Tree). meaning z ≡ Some z) f (ap (λ z. cond z (Some (simple 22)) (cond (nat_le 20 n && nat_le n 22) (Some (simple n)) None)) a ∙ ap (λ z. cond z (Some (simple n)) None) b)
    go false false a b e = cc

pub means_again : (t v : Tree) → meaning t ≡ Some v → meaning v ≡ Some v
means_again = folded simple_meaning simple_again

in_range : (n : ℕ) → (nat_le 20 n && nat_le n 22) ≡ true → (20 ≤ n) × (n ≤ 22)
in_range n e = grind (arith, nat_tests)

simple_assigned : (n : ℕ) (v : Tree) → simple_meaning n ≡ Some v → Assigned v
simple_assigned n v e = go (nat_eq n 23) (nat_le 20 n && nat_le n 22) refl e
  where
    go : (p q : Bool) → (nat_le 20 n && nat_le n 22) ≡ q → cond p (Some (simple 22)) (cond q (Some (simple n)) None) ≡ Some v → Assigned v
    go true q b e = let f : simple 22 ≡ v = cc in subst Assigned f (omega arith, omega arith)
    go false true b e = let f : simple n ≡ v = cc in subst Assigned f (in_range n b)
    go false false b e = cc

pub assigned_simple : (n : ℕ) → (20 ≤ n) × (n ≤ 22) → simple_meaning n ≡ Some (simple n)
assigned_simple n p =
    let a : nat_eq n 23 ≡ false = grind (arith, nat_tests, p.0, p.1) in
    let b : (nat_le 20 n && nat_le n 22) ≡ true = grind (arith, nat_tests, p.0, p.1) in
    ap (λ z. cond z (Some (simple 22)) (cond (nat_le 20 n && nat_le n 22) (Some (simple n)) None)) a ∙ ap (λ z. cond z (Some (simple n)) None) b

-- the parts of a map that means something
pub pairs_parts : (k v : Tree) (ps qs : Pairs) → pair_meanings (pair_more k v ps) ≡ Some qs → (a b : Tree) × (rs : Pairs) × (meaning k ≡ Some a) × (meaning v ≡ Some b) × (pair_meanings ps ≡ Some rs) × (qs ≡ pair_more a b rs)
pairs_parts k v ps qs e = go (meaning k) (meaning v) (pair_meanings ps) refl refl refl e
  where
    go : (m n : Option Tree) (r : Option Pairs) → meaning k ≡ m → meaning v ≡ n → pair_meanings ps ≡ r → option_and_then (λ a. option_and_then (λ b. option_map (pair_more a b) r) n) m ≡ Some qs
        → (a b : Tree) × (rs : Pairs) × (meaning k ≡ Some a) × (meaning v ≡ Some b) × (pair_meanings ps ≡ Some rs) × (qs ≡ pair_more a b rs)
    go None n r x y z e = cc
    go (Some a) None r x y z e = cc
    go (Some a) (Some b) None x y z e = cc
    go (Some a) (Some b) (Some rs) x y z e = (a, b, rs, x, y, z, cc)

-- a tag over assigned simple values
number_assigned : (n m : ℕ) (b : List ℕ) (v : Tree) → fold_number n m b ≡ Some v → Assigned v
number_assigned n m b v e = go (nat_lt m 18446744073709551616) (nat_eq n 3 && nat_le 170141183460469231731687303715884105728 m) e
  where
    go : (p q : Bool) → cond p (Some (integer (cond (nat_eq n 2) (pos m) (negsuc m)))) (cond q None (Some (tag n (bytes (without_zeros b))))) ≡ Some v → Assigned v
    go true q e = let f : integer (cond (nat_eq n 2) (pos m) (negsuc m)) ≡ v = cc in subst Assigned f tt
    go false true e = cc
    go false false e = let f : tag n (bytes (without_zeros b)) ≡ v = cc in subst Assigned f tt

bignum_assigned : (n : ℕ) (b : List ℕ) (v : Tree) → fold_bytes n b ≡ Some v → Assigned v
bignum_assigned n b v e = go (nat_le (length b) 16) e
  where
    go : (t : Bool) → cond t (fold_number n (big_endian_from 0 b) b) (Some (tag n (bytes b))) ≡ Some v → Assigned v
    go true e = number_assigned n (big_endian_from 0 b) b v e
    go false e = let f : tag n (bytes b) ≡ v = cc in subst Assigned f tt

tag_assigned : (n : ℕ) (u v : Tree) → Assigned u → tagged n u ≡ Some v → Assigned v
tag_assigned n (bytes b) v a e = go (nat_eq n 2 || nat_eq n 3) e
  where
    go : (t : Bool) → cond t (fold_bytes n b) (Some (tag n (bytes b))) ≡ Some v → Assigned v
    go true e = bignum_assigned n b v e
    go false e = let f : tag n (bytes b) ≡ v = cc in subst Assigned f tt
tag_assigned n (integer i) v a e = let f : tag n (integer i) ≡ v = cc in subst Assigned f tt
tag_assigned n (text b) v a e = let f : tag n (text b) ≡ v = cc in subst Assigned f tt
tag_assigned n (float x) v a e = let f : tag n (float x) ≡ v = cc in subst Assigned f tt
tag_assigned n (array ts) v a e = let f : tag n (array ts) ≡ v = cc in subst Assigned f a
tag_assigned n (map ps) v a e = let f : tag n (map ps) ≡ v = cc in subst Assigned f a
tag_assigned n (tag k t) v a e = let f : tag n (tag k t) ≡ v = cc in subst Assigned f a
tag_assigned n (simple k) v a e = let f : tag n (simple k) ≡ v = cc in subst Assigned f a

array_assigned : (m : Option Trees) (v : Tree) → ((us : Trees) → m ≡ Some us → AllAssigned us) → option_map array m ≡ Some v → Assigned v
array_assigned None v h e = cc
array_assigned (Some us) v h e = let f : array us ≡ v = cc in subst Assigned f (h us refl)

map_assigned : (m : Option Pairs) (v : Tree) → ((us : Pairs) → m ≡ Some us → PairsAssigned us) → option_map map m ≡ Some v → Assigned v
map_assigned None v h e = cc
map_assigned (Some us) v h e = let f : map us ≡ v = cc in subst Assigned f (h us refl)

then_assigned : (n : ℕ) (m : Option Tree) (v : Tree) → ((u : Tree) → m ≡ Some u → Assigned u) → option_and_then (tagged n) m ≡ Some v → Assigned v
then_assigned n None v h e = cc
then_assigned n (Some u) v h e = tag_assigned n u v (h u refl) e

mutual
  pub is_assigned : (t v : Tree) → meaning t ≡ Some v → Assigned v
  is_assigned (integer i) v e = let f : integer i ≡ v = cc in subst Assigned f tt
  is_assigned (bytes b) v e = let f : bytes b ≡ v = cc in subst Assigned f tt
  is_assigned (text b) v e = let f : text b ≡ v = cc in subst Assigned f tt
  is_assigned (float x) v e = let f : float x ≡ v = cc in subst Assigned f tt
  is_assigned (simple n) v e = simple_assigned n v e
  is_assigned (array ts) v e = array_assigned (meanings ts) v (λ us x. all_assigned ts us x) e
  is_assigned (map ps) v e = map_assigned (pair_meanings ps) v (λ us x. pairs_assigned ps us x) e
  is_assigned (tag n t) v e = then_assigned n (meaning t) v (λ u x. is_assigned t u x) e

  all_assigned : (ts us : Trees) → meanings ts ≡ Some us → AllAssigned us
  all_assigned no_trees us e = let f : no_trees ≡ us = cc in subst AllAssigned f tt
  all_assigned (one_more t ts) us e =
      let w = meanings_parts t ts us e in
      subst AllAssigned (sym w.4) (is_assigned t w.0 w.2, all_assigned ts w.1 w.3)

  pairs_assigned : (ps us : Pairs) → pair_meanings ps ≡ Some us → PairsAssigned us
  pairs_assigned no_pairs us e = let f : no_pairs ≡ us = cc in subst PairsAssigned f tt
  pairs_assigned (pair_more k v ps) us e =
      let w = pairs_parts k v ps us e in
      subst PairsAssigned (sym w.6) (is_assigned k w.0 w.3, is_assigned v w.1 w.4, pairs_assigned ps w.2 w.5)

abbrev folds : Trees → Option Trees
folds = fold_all_by (λ n. Some (simple n))

abbrev folds_pairs : Pairs → Option Pairs
folds_pairs = fold_pairs_by (λ n. Some (simple n))

-- over assigned simple values
mutual
  pub means_folding : (t : Tree) → Assigned t → meaning t ≡ fold t
  means_folding (integer i) a = refl
  means_folding (bytes b) a = refl
  means_folding (text b) a = refl
  means_folding (float x) a = refl
  means_folding (simple n) a = assigned_simple n a
  means_folding (array ts) a = ap (option_map array) (all_folding ts a)
  means_folding (map ps) a = ap (option_map map) (pairs_folding ps a)
  means_folding (tag n t) a = ap (option_and_then (tagged n)) (means_folding t a)

  all_folding : (ts : Trees) → AllAssigned ts → meanings ts ≡ folds ts
  all_folding no_trees a = refl
  all_folding (one_more t ts) a =
      ap (option_and_then (λ u. option_map (one_more u) (meanings ts))) (means_folding t a.0) ∙ ap (λ z. option_and_then (λ u. option_map (one_more u) z) (fold t)) (all_folding ts a.1)

  pairs_folding : (ps : Pairs) → PairsAssigned ps → pair_meanings ps ≡ folds_pairs ps
  pairs_folding no_pairs a = refl
  pairs_folding (pair_more k v ps) a =
      ap (option_and_then (λ x. option_and_then (λ y. option_map (pair_more x y) (pair_meanings ps)) (meaning v))) (means_folding k a.0)
      ∙ ap (λ z. option_and_then (λ x. option_and_then (λ y. option_map (pair_more x y) (pair_meanings ps)) z) (fold k)) (means_folding v a.1)
      ∙ ap (λ z. option_and_then (λ x. option_and_then (λ y. option_map (pair_more x y) z) (fold v)) (fold k)) (pairs_folding ps a.2)

pub folded_again : (t v : Tree) → meaning t ≡ Some v → fold v ≡ Some v
folded_again t v e = sym (means_folding v (is_assigned t v e)) ∙ means_again t v e
