-- The order of trees by kind ties equal trees alone.
use Rattle.std.proofs.Common.{◌≡◌, refl, ap, arith}
use Rattle.std.proofs.lemmas.Bool.{false≢true}
use Rattle.std.proofs.lemmas.Map.Lookups.{exact_unsigned, exact_signed, exact_bytes}
use Rattle.std.specs.declared.cmp.Ordering.TheVariants.{Equal}
use Rattle.std.specs.Ordering.{ordering_then, nat_cmp, is_eq}
use Rattle.ciborium_value.specs.Tree.{Tree, integer, bytes, text, array, map, tag, simple, float, Trees, no_trees, one_more, Pairs, no_pairs, pair_more}
use Rattle.ciborium_value.specs.Order.{kind, width, pattern, tree_cmp, trees_cmp, pairs_cmp}
use Rattle.ciborium_value.specs.Facts.Orders.{then_tied, float_tied}

mutual
  pub tied : (t s : Tree) → tree_cmp t s ≡ Equal → t ≡ s
  tied (integer i) (integer j) e = ap integer (exact_signed i j e)
  tied (bytes a) (bytes b) e = ap bytes (exact_bytes a b e)
  tied (float f) (float g) e =
      let h = then_tied (nat_cmp (width f) (width g)) (nat_cmp (pattern f) (pattern g)) e in
      ap float (float_tied f g (exact_unsigned (width f) (width g) h.0) (exact_unsigned (pattern f) (pattern g) h.1))
  tied (text a) (text b) e = ap text (exact_bytes a b e)
  tied (simple n) (simple m) e = ap simple (exact_unsigned n m e)
  tied (tag n t) (tag m s) e =
      let h = then_tied (nat_cmp n m) (tree_cmp t s) e in
      λ i. tag (exact_unsigned n m h.0 i) (tied t s h.1 i)
  tied (array ts) (array ss) e = ap array (all_tied ts ss e)
  tied (map ps) (map qs) e = ap map (pairs_tied ps qs e)
  tied t s e = absurd (let k : kind t ≡ kind s = exact_unsigned (kind t) (kind s) e in omega arith)

  all_tied : (ts ss : Trees) → trees_cmp ts ss ≡ Equal → ts ≡ ss
  all_tied no_trees no_trees e = refl
  all_tied no_trees (one_more s ss) e = absurd (false≢true (ap is_eq e))
  all_tied (one_more t ts) no_trees e = absurd (false≢true (ap is_eq e))
  all_tied (one_more t ts) (one_more s ss) e =
      let h = then_tied (tree_cmp t s) (trees_cmp ts ss) e in
      λ i. one_more (tied t s h.0 i) (all_tied ts ss h.1 i)

  pairs_tied : (ps qs : Pairs) → pairs_cmp ps qs ≡ Equal → ps ≡ qs
  pairs_tied no_pairs no_pairs e = refl
  pairs_tied no_pairs (pair_more l w qs) e = absurd (false≢true (ap is_eq e))
  pairs_tied (pair_more k v ps) no_pairs e = absurd (false≢true (ap is_eq e))
  pairs_tied (pair_more k v ps) (pair_more l w qs) e =
      let h = then_tied (ordering_then (tree_cmp k l) (tree_cmp v w)) (pairs_cmp ps qs) e in
      let g = then_tied (tree_cmp k l) (tree_cmp v w) h.0 in
      λ i. pair_more (tied k l g.0 i) (tied v w g.1 i) (pairs_tied ps qs h.1 i)
