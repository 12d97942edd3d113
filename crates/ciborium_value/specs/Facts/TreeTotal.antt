-- The order of trees by kind is total: each tree has a list of numbers whose order is that of the
-- trees.
use Rattle.std.proofs.Common.{◌≡◌, ℕ, ℤ, pos, ◌<◌, ◌<ℤ◌, arith, List, [], ◌∷◌, ◌++◌, refl, sym, ap, subst, ◌∙◌, append_assoc, append-nil}
use Rattle.std.specs.Cmp.{IsTotalOrder, on_total, nat_cmp_is}
use Rattle.std.proofs.lemmas.Int.{ints}
use Rattle.std.proofs.lemmas.Cmp.{int_ranked, int_cmp_total, lists_total}
use Rattle.std.specs.Cmp.Lexicographic.{slice_cmp}
use Rattle.std.specs.declared.cmp.Ordering.{Ordering}
use Rattle.std.specs.declared.cmp.Ordering.TheVariants.{Less, Equal, Greater}
use Rattle.std.specs.Ordering.{ordering_then, nat_cmp, int_cmp, MatchOrdering}
use Rattle.ciborium_value.specs.Tree.{Tree, integer, bytes, text, array, map, tag, simple, float, Trees, no_trees, one_more, Pairs, no_pairs, pair_more}
use Rattle.ciborium_value.specs.Order.{width, pattern, tree_cmp, trees_cmp, pairs_cmp}
use Rattle.ciborium_value.specs.Facts.Orders.{bytes_cmp, assoc, then_equal}

-- a 1 before each element, and a 0 at the end
abbrev ended : List ℕ → List ℤ
ended [] = pos 0 ∷ []
ended (x ∷ xs) = pos 1 ∷ pos x ∷ ended xs

abbrev mutual
  code : Tree → List ℤ
  code (integer i) = pos 0 ∷ i ∷ []
  code (bytes b) = pos 1 ∷ ended b
  code (float f) = pos 2 ∷ pos (width f) ∷ pos (pattern f) ∷ []
  code (text b) = pos 3 ∷ ended b
  code (simple n) = pos 4 ∷ pos n ∷ []
  code (tag n t) = pos 5 ∷ pos n ∷ code t
  code (array ts) = pos 6 ∷ codes ts
  code (map ps) = pos 7 ∷ pair_codes ps

  codes : Trees → List ℤ
  codes no_trees = pos 0 ∷ []
  codes (one_more t ts) = pos 1 ∷ (code t ++ codes ts)

  pair_codes : Pairs → List ℤ
  pair_codes no_pairs = pos 0 ∷ []
  pair_codes (pair_more k v ps) = pos 1 ∷ (code k ++ (code v ++ pair_codes ps))

abbrev ints_cmp : List ℤ → List ℤ → Ordering
ints_cmp = slice_cmp int_cmp

-- numbers go as they do among integers
pos_cmp : (n m : ℕ) (S : Ordering) → ordering_then (int_cmp (pos n) (pos m)) S ≡ ordering_then (nat_cmp n m) S
pos_cmp n m S = ap (λ o. ordering_then o S) (nat_cmp_is n m (int_cmp (pos n) (pos m)) (at (int_cmp (pos n) (pos m)) (int_ranked (pos n) (pos m) (int_cmp (pos n) (pos m)) refl)))
  where
    at : (o : Ordering) → MatchOrdering o (pos n <ℤ pos m) (pos n ≡ pos m) (pos m <ℤ pos n) → MatchOrdering o (n < m) (n ≡ m) (m < n)
    at Less l = omega (arith, ints)
    at Equal l = cc
    at Greater l = omega (arith, ints)

ended_is : (a b : List ℕ) (u v : List ℤ) → ints_cmp (ended a ++ u) (ended b ++ v) ≡ ordering_then (bytes_cmp a b) (ints_cmp u v)
ended_is [] [] u v = refl
ended_is [] (y ∷ b) u v = refl
ended_is (x ∷ a) [] u v = refl
ended_is (x ∷ a) (y ∷ b) u v = pos_cmp x y _ ∙ ap (ordering_then (nat_cmp x y)) (ended_is a b u v) ∙ assoc (nat_cmp x y) (bytes_cmp a b) (ints_cmp u v)

mutual
  code_is : (t s : Tree) (u v : List ℤ) → ints_cmp (code t ++ u) (code s ++ v) ≡ ordering_then (tree_cmp t s) (ints_cmp u v)
  code_is (integer i) (integer j) u v = refl
  code_is (bytes a) (bytes b) u v = ended_is a b u v
  code_is (float f) (float g) u v =
      pos_cmp (width f) (width g) _
      ∙ ap (ordering_then (nat_cmp (width f) (width g))) (pos_cmp (pattern f) (pattern g) (ints_cmp u v))
      ∙ assoc (nat_cmp (width f) (width g)) (nat_cmp (pattern f) (pattern g)) (ints_cmp u v)
  code_is (text a) (text b) u v = ended_is a b u v
  code_is (simple n) (simple m) u v = pos_cmp n m (ints_cmp u v)
  code_is (tag n t) (tag m s) u v = pos_cmp n m _ ∙ ap (ordering_then (nat_cmp n m)) (code_is t s u v) ∙ assoc (nat_cmp n m) (tree_cmp t s) (ints_cmp u v)
  code_is (array ts) (array ss) u v = codes_are ts ss u v
  code_is (map ps) (map qs) u v = pairs_are ps qs u v
  code_is t s u v = refl

  codes_are : (ts ss : Trees) (u v : List ℤ) → ints_cmp (codes ts ++ u) (codes ss ++ v) ≡ ordering_then (trees_cmp ts ss) (ints_cmp u v)
  codes_are no_trees no_trees u v = refl
  codes_are no_trees (one_more s ss) u v = refl
  codes_are (one_more t ts) no_trees u v = refl
  codes_are (one_more t ts) (one_more s ss) u v =
      (λ i. ints_cmp (append_assoc (code t) (codes ts) u i) (append_assoc (code s) (codes ss) v i))
      ∙ code_is t s (codes ts ++ u) (codes ss ++ v)
      ∙ ap (ordering_then (tree_cmp t s)) (codes_are ts ss u v)
      ∙ assoc (tree_cmp t s) (trees_cmp ts ss) (ints_cmp u v)

  pairs_are : (ps qs : Pairs) (u v : List ℤ) → ints_cmp (pair_codes ps ++ u) (pair_codes qs ++ v) ≡ ordering_then (pairs_cmp ps qs) (ints_cmp u v)
  pairs_are no_pairs no_pairs u v = refl
  pairs_are no_pairs (pair_more l w qs) u v = refl
  pairs_are (pair_more k v ps) no_pairs a b = refl
  pairs_are (pair_more k x ps) (pair_more l y qs) u v =
      let p = append_assoc (code k) (code x ++ pair_codes ps) u ∙ ap (λ z. code k ++ z) (append_assoc (code x) (pair_codes ps) u) in
      let q = append_assoc (code l) (code y ++ pair_codes qs) v ∙ ap (λ z. code l ++ z) (append_assoc (code y) (pair_codes qs) v) in
      (λ i. ints_cmp (p i) (q i))
      ∙ code_is k l _ _
      ∙ ap (ordering_then (tree_cmp k l)) (code_is x y _ _ ∙ ap (ordering_then (tree_cmp x y)) (pairs_are ps qs u v))
      ∙ assoc (tree_cmp k l) (tree_cmp x y) (ordering_then (pairs_cmp ps qs) (ints_cmp u v))
      ∙ assoc (ordering_then (tree_cmp k l) (tree_cmp x y)) (pairs_cmp ps qs) (ints_cmp u v)

code_order : (t s : Tree) → ints_cmp (code t) (code s) ≡ tree_cmp t s
code_order t s = (λ i. ints_cmp (sym (append-nil (code t)) i) (sym (append-nil (code s)) i)) ∙ code_is t s [] [] ∙ then_equal (tree_cmp t s)

pub tree_total : IsTotalOrder tree_cmp
tree_total = subst IsTotalOrder (λ i t s. code_order t s i) (on_total code (lists_total int_cmp_total))
