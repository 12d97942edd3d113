-- The order by heads and contents ties equal trees alone.
use Rattle.std.proofs.Common.{◌≡◌, ℤ, pos, negsuc, length, ap, refl, arith}
use Rattle.std.proofs.lemmas.Map.Lookups.{exact_unsigned, exact_bytes}
use Rattle.std.specs.declared.cmp.Ordering.TheVariants.{Equal}
use Rattle.std.specs.Ordering.{ordering_then, nat_cmp}
use Rattle.ciborium_value.specs.Tree.{Tree, integer, bytes, text, array, map, tag, simple, float, Trees, no_trees, one_more, Pairs, no_pairs, pair_more, tree_count, pair_count}
use Rattle.ciborium_value.specs.Order.{width, pattern}
use Rattle.ciborium_value.specs.Facts.Heads.{int_place, place, number, heads_cmp, all_cmp, each_cmp}
use Rattle.ciborium_value.specs.Facts.Orders.{bytes_cmp, then_tied, float_tied, places}

int_ties : (i j : ℤ) → int_place i ≡ int_place j → heads_cmp (integer i) (integer j) ≡ Equal → i ≡ j
int_ties (pos n) (pos m) e h = ap pos (exact_unsigned n m h)
int_ties (negsuc n) (negsuc m) e h = ap negsuc (exact_unsigned n m h)
int_ties (pos n) (negsuc m) e h = absurd (omega (arith, e))
int_ties (negsuc n) (pos m) e h = absurd (omega (arith, e))

same_place : (t s : Tree) → ordering_then (nat_cmp (place t) (place s)) (nat_cmp (number t) (number s)) ≡ Equal → place t ≡ place s
same_place t s e = exact_unsigned (place t) (place s) (then_tied (nat_cmp (place t) (place s)) (nat_cmp (number t) (number s)) e).0

mutual
  pub heads_tied : (t s : Tree) → heads_cmp t s ≡ Equal → t ≡ s
  heads_tied (bytes a) (bytes b) e = ap bytes (exact_bytes a b (then_tied (nat_cmp (length a) (length b)) (bytes_cmp a b) e).1)
  heads_tied (text a) (text b) e = ap text (exact_bytes a b (then_tied (nat_cmp (length a) (length b)) (bytes_cmp a b) e).1)
  heads_tied (array ts) (array ss) e =
      let h = then_tied (nat_cmp (tree_count ts) (tree_count ss)) (all_cmp ts ss) e in
      ap array (all_tied ts ss (exact_unsigned (tree_count ts) (tree_count ss) h.0) h.1)
  heads_tied (map ps) (map qs) e =
      let h = then_tied (nat_cmp (pair_count ps) (pair_count qs)) (each_cmp ps qs) e in
      ap map (each_tied ps qs (exact_unsigned (pair_count ps) (pair_count qs) h.0) h.1)
  heads_tied (tag n t) (tag m s) e =
      let h = then_tied (nat_cmp n m) (heads_cmp t s) e in
      λ i. tag (exact_unsigned n m h.0 i) (heads_tied t s h.1 i)
  heads_tied (integer i) (integer j) e = ap integer (int_ties i j (same_place (integer i) (integer j) e) e)
  heads_tied (simple n) (simple m) e = ap simple (exact_unsigned n m e)
  heads_tied (float f) (float g) e =
      let h = then_tied (nat_cmp (place (float f)) (place (float g))) (nat_cmp (pattern f) (pattern g)) e in
      let p : place (float f) ≡ place (float g) = exact_unsigned (place (float f)) (place (float g)) h.0 in
      let w : width f ≡ width g = omega (arith, p) in
      ap float (float_tied f g w (exact_unsigned (pattern f) (pattern g) h.1))
  heads_tied t s e =
      let h : place t ≡ place s = same_place t s e in
      absurd (let k = places t in let l = places s in omega (arith, k.0, k.1, l.0, l.1, h))

  all_tied : (ts ss : Trees) → tree_count ts ≡ tree_count ss → all_cmp ts ss ≡ Equal → ts ≡ ss
  all_tied no_trees no_trees n e = refl
  all_tied no_trees (one_more s ss) n e = absurd (omega (arith, n))
  all_tied (one_more t ts) no_trees n e = absurd (omega (arith, n))
  all_tied (one_more t ts) (one_more s ss) n e =
      let h = then_tied (heads_cmp t s) (all_cmp ts ss) e in
      λ i. one_more (heads_tied t s h.0 i) (all_tied ts ss (omega (arith, n)) h.1 i)

  each_tied : (ps qs : Pairs) → pair_count ps ≡ pair_count qs → each_cmp ps qs ≡ Equal → ps ≡ qs
  each_tied no_pairs no_pairs n e = refl
  each_tied no_pairs (pair_more l w qs) n e = absurd (omega (arith, n))
  each_tied (pair_more k v ps) no_pairs n e = absurd (omega (arith, n))
  each_tied (pair_more k v ps) (pair_more l w qs) n e =
      let h = then_tied (ordering_then (heads_cmp k l) (heads_cmp v w)) (each_cmp ps qs) e in
      let g = then_tied (heads_cmp k l) (heads_cmp v w) h.0 in
      λ i. pair_more (heads_tied k l g.0 i) (heads_tied v w g.1 i) (each_tied ps qs (omega (arith, n)) h.1 i)
