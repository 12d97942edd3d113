-- A folded tree folds to itself, whatever its simple values are read as, if those readings do.
use Rattle.std.proofs.Common.{◌≡◌, ◌≤◌, ◌+◌, ◌*◌, ◌⊎◌, inl, inr, ℕ, ℤ, Bool, true, false, cond, List, [], ◌∷◌, length, Option, None, Some, refl, sym, ap, subst, ◌∙◌, arith, nat_eq, nat_lt, nat_le, ◌&&◌, ◌||◌, pos, negsuc}
use Rattle.std.proofs.lemmas.Bool.Decides.{nat_tests}
use Rattle.std.specs.Option.{option_map, option_and_then}
use Rattle.ciborium_value.specs.Tree.{Tree, integer, bytes, text, array, map, tag, simple, float, Trees, no_trees, one_more, Pairs, no_pairs, pair_more}
use Rattle.ciborium_value.proofs.Stripped.{strip_number, strip_again, strip_short}
use Rattle.ciborium_value.specs.Folding.{tagged, fold_bytes, fold_number, big_endian_from, without_zeros, fold_by, fold_all_by, fold_pairs_by, fold}

short_test : (n m : ℕ) → n ≤ m → nat_le m 16 ≡ true → nat_le n 16 ≡ true
short_test n m l e = grind (arith, nat_tests)

-- a fold that keeps the tag keeps it again
number_again : (n m : ℕ) (b c : List ℕ) (v : Tree) → without_zeros c ≡ c → c ≡ without_zeros b → fold_number n m b ≡ Some v
    → ((z : ℤ) × (v ≡ integer z)) ⊎ ((v ≡ tag n (bytes c)) × (fold_number n m c ≡ Some v))
number_again n m b c v again is e = go (nat_lt m 18446744073709551616) (nat_eq n 3 && nat_le 170141183460469231731687303715884105728 m) e
  where
    go : (p q : Bool) → cond p (Some (integer (cond (nat_eq n 2) (pos m) (negsuc m)))) (cond q None (Some (tag n (bytes (without_zeros b))))) ≡ Some v
        → ((z : ℤ) × (v ≡ integer z)) ⊎ ((v ≡ tag n (bytes c)) × (cond p (Some (integer (cond (nat_eq n 2) (pos m) (negsuc m)))) (cond q None (Some (tag n (bytes (without_zeros c))))) ≡ Some v))
    go true q e = inl (_, (let f : v ≡ integer (cond (nat_eq n 2) (pos m) (negsuc m)) = cc in f))
    go false true e = cc
    go false false e =
        let f : tag n (bytes (without_zeros b)) ≡ v = cc in
        inr (sym f ∙ ap (λ z. tag n (bytes z)) (sym is), ap (λ z. Some (tag n (bytes z))) (again ∙ is) ∙ ap Some f)

fold_again : (n : ℕ) (b : List ℕ) (v : Tree) → fold_bytes n b ≡ Some v → ((z : ℤ) × (v ≡ integer z)) ⊎ ((c : List ℕ) × (v ≡ tag n (bytes c)) × (fold_bytes n c ≡ Some v))
fold_again n b v e = go (nat_le (length b) 16) refl e
  where
    kept : (nat_le (length b) 16 ≡ true) → ((z : ℤ) × (v ≡ integer z)) ⊎ ((v ≡ tag n (bytes (without_zeros b))) × (fold_number n (big_endian_from 0 b) (without_zeros b) ≡ Some v))
        → ((z : ℤ) × (v ≡ integer z)) ⊎ ((c : List ℕ) × (v ≡ tag n (bytes c)) × (fold_bytes n c ≡ Some v))
    kept t (inl w) = inl w
    kept t (inr w) =
        let c = without_zeros b in
        inr (
          without_zeros b,
          w.0,
          ap (λ z. cond z (fold_number n (big_endian_from 0 (without_zeros b)) (without_zeros b)) (Some (tag n (bytes (without_zeros b))))) (short_test _ _ (strip_short b) t)
              ∙ ap (λ z. fold_number n z (without_zeros b)) (strip_number b) ∙ w.1,
        )

    go : (t : Bool) → nat_le (length b) 16 ≡ t → cond t (fold_number n (big_endian_from 0 b) b) (Some (tag n (bytes b))) ≡ Some v
        → ((z : ℤ) × (v ≡ integer z)) ⊎ ((c : List ℕ) × (v ≡ tag n (bytes c)) × (fold_bytes n c ≡ Some v))
    go true t e = kept t (number_again n (big_endian_from 0 b) b (without_zeros b) v (strip_again b) refl e)
    go false t e = inr (b, sym (let f : tag n (bytes b) ≡ v = cc in f), ap (λ z. cond z (fold_number n (big_endian_from 0 b) b) (Some (tag n (bytes b)))) t ∙ e)

module _ (s : ℕ → Option Tree) (read_again : (n : ℕ) (v : Tree) → s n ≡ Some v → fold_by s v ≡ Some v) where
  abbrev folds_to : Tree → Option Tree
  folds_to = fold_by s

  abbrev folds : Trees → Option Trees
  folds = fold_all_by s

  abbrev folds_pairs : Pairs → Option Pairs
  folds_pairs = fold_pairs_by s

  items_parts : (t : Tree) (ts vs : Trees) → folds (one_more t ts) ≡ Some vs → (v : Tree) × (ws : Trees) × (folds_to t ≡ Some v) × (folds ts ≡ Some ws) × (vs ≡ one_more v ws)
  items_parts t ts vs e = go (folds_to t) (folds ts) refl refl e
    where
      go : (m : Option Tree) (ms : Option Trees) → folds_to t ≡ m → folds ts ≡ ms → option_and_then (λ u. option_map (one_more u) ms) m ≡ Some vs
          → (v : Tree) × (ws : Trees) × (folds_to t ≡ Some v) × (folds ts ≡ Some ws) × (vs ≡ one_more v ws)
      go None ms a b e = cc
      go (Some v) None a b e = cc
      go (Some v) (Some ws) a b e = (v, ws, a, b, cc)

  items_made : (t : Tree) (ts : Trees) (v : Tree) (ws : Trees) → folds_to t ≡ Some v → folds ts ≡ Some ws → folds (one_more t ts) ≡ Some (one_more v ws)
  items_made t ts v ws a b = ap (option_and_then (λ u. option_map (one_more u) (folds ts))) a ∙ ap (option_map (one_more v)) b

  pairs_made : (k v a b : Tree) (qs ps : Pairs) → folds_to k ≡ Some a → folds_to v ≡ Some b → folds_pairs qs ≡ Some ps → folds_pairs (pair_more k v qs) ≡ Some (pair_more a b ps)
  pairs_made k v a b qs ps x y z =
      ap (option_and_then (λ a. option_and_then (λ b. option_map (pair_more a b) (folds_pairs qs)) (folds_to v))) x ∙ ap (option_and_then (λ b. option_map (pair_more a b) (folds_pairs qs))) y ∙ ap (option_map (pair_more a b)) z

  -- a tag over a folded tree
  tag_again : (n : ℕ) (u v : Tree) → folds_to u ≡ Some u → tagged n u ≡ Some v → folds_to v ≡ Some v
  tag_again n (bytes b) v m e = go (nat_eq n 2 || nat_eq n 3) refl e
    where
      done : (nat_eq n 2 || nat_eq n 3) ≡ true → ((z : ℤ) × (v ≡ integer z)) ⊎ ((c : List ℕ) × (v ≡ tag n (bytes c)) × (fold_bytes n c ≡ Some v)) → folds_to v ≡ Some v
      done t (inl (z, f)) = subst (λ (w : Tree). folds_to w ≡ Some w) (sym f) refl
      done t (inr (c, f, g)) = ap folds_to f ∙ ap (λ z. cond z (fold_bytes n c) (Some (tag n (bytes c)))) t ∙ g

      go : (t : Bool) → (nat_eq n 2 || nat_eq n 3) ≡ t → cond t (fold_bytes n b) (Some (tag n (bytes b))) ≡ Some v → folds_to v ≡ Some v
      go true t e = done t (fold_again n b v e)
      go false t e = let f : tag n (bytes b) ≡ v = cc in subst (λ (w : Tree). folds_to w ≡ Some w) f (ap (λ z. cond z (fold_bytes n b) (Some (tag n (bytes b)))) t)
  tag_again n (integer i) v m e = let f : tag n (integer i) ≡ v = cc in subst (λ (w : Tree). folds_to w ≡ Some w) f refl
  tag_again n (text b) v m e = let f : tag n (text b) ≡ v = cc in subst (λ (w : Tree). folds_to w ≡ Some w) f refl
  tag_again n (float x) v m e = let f : tag n (float x) ≡ v = cc in subst (λ (w : Tree). folds_to w ≡ Some w) f refl
  tag_again n (array ts) v m e = let f : tag n (array ts) ≡ v = cc in subst (λ (w : Tree). folds_to w ≡ Some w) f (ap (option_and_then (tagged n)) m)
  tag_again n (map ps) v m e = let f : tag n (map ps) ≡ v = cc in subst (λ (w : Tree). folds_to w ≡ Some w) f (ap (option_and_then (tagged n)) m)
  tag_again n (tag k t) v m e = let f : tag n (tag k t) ≡ v = cc in subst (λ (w : Tree). folds_to w ≡ Some w) f (ap (option_and_then (tagged n)) m)
  tag_again n (simple k) v m e = let f : tag n (simple k) ≡ v = cc in subst (λ (w : Tree). folds_to w ≡ Some w) f (ap (option_and_then (tagged n)) m)

  pairs_parts : (k v : Tree) (ps qs : Pairs) → folds_pairs (pair_more k v ps) ≡ Some qs → (a b : Tree) × (rs : Pairs) × (folds_to k ≡ Some a) × (folds_to v ≡ Some b) × (folds_pairs ps ≡ Some rs) × (qs ≡ pair_more a b rs)
  pairs_parts k v ps qs e = go (folds_to k) (folds_to v) (folds_pairs ps) refl refl refl e
    where
      go : (m n : Option Tree) (r : Option Pairs) → folds_to k ≡ m → folds_to v ≡ n → folds_pairs ps ≡ r → option_and_then (λ a. option_and_then (λ b. option_map (pair_more a b) r) n) m ≡ Some qs
          → (a b : Tree) × (rs : Pairs) × (folds_to k ≡ Some a) × (folds_to v ≡ Some b) × (folds_pairs ps ≡ Some rs) × (qs ≡ pair_more a b rs)
      go None n r x y z e = cc
      go (Some a) None r x y z e = cc
      go (Some a) (Some b) None x y z e = cc
      go (Some a) (Some b) (Some rs) x y z e = (a, b, rs, x, y, z, cc)

  array_made : (m : Option Trees) (v : Tree) → ((us : Trees) → m ≡ Some us → folds us ≡ Some us) → option_map array m ≡ Some v → folds_to v ≡ Some v
  array_made None v h e = cc
  array_made (Some us) v h e = let f : array us ≡ v = cc in subst (λ (w : Tree). folds_to w ≡ Some w) f (ap (option_map array) (h us refl))

  map_made : (m : Option Pairs) (v : Tree) → ((us : Pairs) → m ≡ Some us → folds_pairs us ≡ Some us) → option_map map m ≡ Some v → folds_to v ≡ Some v
  map_made None v h e = cc
  map_made (Some us) v h e = let f : map us ≡ v = cc in subst (λ (w : Tree). folds_to w ≡ Some w) f (ap (option_map map) (h us refl))

  tag_made : (n : ℕ) (m : Option Tree) (v : Tree) → ((u : Tree) → m ≡ Some u → folds_to u ≡ Some u) → option_and_then (tagged n) m ≡ Some v → folds_to v ≡ Some v
  tag_made n None v h e = cc
  tag_made n (Some u) v h e = tag_again n u v (h u refl) e

  mutual
    pub folded : (t v : Tree) → folds_to t ≡ Some v → folds_to v ≡ Some v
    folded (integer i) v e = let f : integer i ≡ v = cc in subst (λ (w : Tree). folds_to w ≡ Some w) f refl
    folded (bytes b) v e = let f : bytes b ≡ v = cc in subst (λ (w : Tree). folds_to w ≡ Some w) f refl
    folded (text b) v e = let f : text b ≡ v = cc in subst (λ (w : Tree). folds_to w ≡ Some w) f refl
    folded (float x) v e = let f : float x ≡ v = cc in subst (λ (w : Tree). folds_to w ≡ Some w) f refl
    folded (simple n) v e = read_again n v e
    folded (array ts) v e = array_made (folds ts) v (λ us x. folded_all ts us x) e
    folded (map ps) v e = map_made (folds_pairs ps) v (λ us x. folded_pairs ps us x) e
    folded (tag n t) v e = tag_made n (folds_to t) v (λ u x. folded t u x) e

    folded_all : (ts us : Trees) → folds ts ≡ Some us → folds us ≡ Some us
    folded_all no_trees us e = let f : no_trees ≡ us = cc in subst (λ (w : Trees). folds w ≡ Some w) f refl
    folded_all (one_more t ts) us e =
        let w = items_parts t ts us e in
        subst (λ (z : Trees). folds z ≡ Some z) (sym w.4) (items_made w.0 w.1 w.0 w.1 (folded t w.0 w.2) (folded_all ts w.1 w.3))

    folded_pairs : (ps us : Pairs) → folds_pairs ps ≡ Some us → folds_pairs us ≡ Some us
    folded_pairs no_pairs us e = let f : no_pairs ≡ us = cc in subst (λ (w : Pairs). folds_pairs w ≡ Some w) f refl
    folded_pairs (pair_more k v ps) us e =
        let w = pairs_parts k v ps us e in
        subst (λ (z : Pairs). folds_pairs z ≡ Some z) (sym w.6) (pairs_made w.0 w.1 w.0 w.1 w.2 w.2 (folded k w.0 w.3) (folded v w.1 w.4) (folded_pairs ps w.2 w.5))

pub fold_twice : (t u : Tree) → fold t ≡ Some u → fold u ≡ Some u
fold_twice = folded (λ n. Some (simple n)) (λ n v e. let f : simple n ≡ v = cc in subst (λ (z : Tree). fold z ≡ Some z) f refl)
