-- Maps are taken back, and of an item one is taken.
use Rattle.std.proofs.Common.{◌≡◌, List, [], ◌∷◌, ◌++◌, map, Option, Some, None, All, refl, sym, ap, subst, ◌∙◌, append_assoc, append-nil}
use Rattle.std.specs.Cmp.{IsTotalOrder}
use Rattle.std.specs.List.{fold as fold_list, AllByRecursion}
use Rattle.std.specs.List.Sorted.{IsStrictlySortedBy}
use Rattle.std.specs.Map.{keys_of}
use Rattle.std.specs.BTreeMap.{insert_entry}
use Rattle.std.specs.Option.{option_map, option_or}
use Rattle.std.specs.Ordering.{match_ordering, ordering_reverse}
use Rattle.std.specs.declared.cmp.Ordering.{Ordering}
use Rattle.std.specs.declared.cmp.Ordering.TheVariants.{Less, Equal, Greater}
use Rattle.ciborium_value.specs.declared.kind.Kind.{Kind}
use Rattle.ciborium_value.specs.Folding.{fold}
use Rattle.ciborium_value.specs.Tree as spec
use Rattle.ciborium_value.specs.Tree.{Tree, Pairs, no_pairs, pair_more}
use Rattle.ciborium_value.specs.View.{pairs}
use Rattle.ciborium_traits.specs.Back.{TakenBackBy, TakesOne}
use Rattle.ciborium_traits.specs.Lists.{first_refusal_of_pairs, EachPairTaken, inserted}
use Rattle.ciborium_traits.specs.Facts.Lists.{none_first, folds_pairs, entry_folded, all_first, all_others}

-- entries in the order of their keys are inserted to themselves
module _ {K V : Type 0} (cmp : K → K → Ordering) (total : IsTotalOrder cmp) where
  below_next : (k : K) (m : List (K × V)) (e : K × V) (es : List (K × V)) → AllByRecursion (λ y. cmp k y ≡ Less) (keys_of (m ++ e ∷ es)) → cmp k e.0 ≡ Less
  below_next k [] e es h = h.0
  below_next k (x ∷ m) e es h = below_next k m e es h.1

  insert_last : (m : List (K × V)) (e : K × V) (es : List (K × V)) → IsStrictlySortedBy cmp (keys_of (m ++ e ∷ es)) → insert_entry cmp m e.0 e.1 ≡ m ++ e ∷ []
  unfolding IsStrictlySortedBy
  insert_last [] e es h = refl
  insert_last (x ∷ m) e es h =
      let g : cmp e.0 x.0 ≡ Greater = total.antisymm e.0 x.0 ∙ ap ordering_reverse (below_next x.0 m e es h.0) in
      ap (λ z. match_ordering z (e ∷ x ∷ m) ((x.0, e.1) ∷ m) (x ∷ insert_entry cmp m e.0 e.1)) g ∙ ap (λ (z : List (K × V)). x ∷ z) (insert_last m e es h.1)

  insert_rest : (m es : List (K × V)) → IsStrictlySortedBy cmp (keys_of (m ++ es)) → fold_list (λ n e. insert_entry cmp n e.0 e.1) m es ≡ m ++ es
  insert_rest m [] h = sym (append-nil m)
  insert_rest m (e ∷ es) h =
      let a : m ++ e ∷ es ≡ (m ++ e ∷ []) ++ es = sym (append_assoc m (e ∷ []) es) in
      ap (λ (z : List (K × V)). fold_list (λ n e. insert_entry cmp n e.0 e.1) z es) (insert_last m e es h)
      ∙ insert_rest (m ++ e ∷ []) es (subst (λ (z : List (K × V)). IsStrictlySortedBy cmp (keys_of z)) a h)
      ∙ sym a

  module _ (put_key : K → Tree) (of_key : Tree → Option Kind) (takes_key : Tree → K → Type 0) (put_value : V → Tree) (of_value : Tree → Option Kind) (takes_value : Tree → V → Type 0) where
    abbrev BackEntry : K × V → Type 0
    BackEntry e = TakenBackBy put_key of_key takes_key e.0 × TakenBackBy put_value of_value takes_value e.1

    abbrev written : List (K × V) → Pairs
    written es = pairs (map (λ e. (put_key e.0, put_value e.1)) es)

    entries_back : (es : List (K × V)) → All BackEntry es
        → (folds_pairs (written es) ≡ Some (written es)) × (first_refusal_of_pairs of_key of_value (written es) ≡ None) × EachPairTaken takes_key takes_value (written es) es
    entries_back [] h = (refl, refl, tt)
    entries_back (e ∷ es) h =
        let f = all_first BackEntry e es h in
        let r = entries_back es (all_others BackEntry e es h) in (
          entry_folded (put_key e.0) (put_value e.1) (written es) f.0.0 f.1.0 r.0,
          turns (of_key (put_key e.0)) (of_value (put_value e.1)) (first_refusal_of_pairs of_key of_value (written es)) f.0.1 f.1.1 r.1,
          (f.0.2, f.1.2, r.2),
        )
      where
        turns : (p q r : Option Kind) → p ≡ None → q ≡ None → r ≡ None → option_or p (option_or q r) ≡ None
        turns p q r a b c = none_first p (option_or q r) a ∙ none_first q r b ∙ c

    pub map_back : (es : List (K × V)) → IsStrictlySortedBy cmp (keys_of es) → All BackEntry es
        → (fold (spec.map (written es)) ≡ Some (spec.map (written es))) × (first_refusal_of_pairs of_key of_value (written es) ≡ None)
        × ((ps : Pairs) × (fs : List (K × V)) × (spec.map (written es) ≡ spec.map ps) × EachPairTaken takes_key takes_value ps fs × (es ≡ inserted cmp fs))
    map_back es sorted h =
        let r = entries_back es h in
        (ap (option_map spec.map) r.0, r.1, (written es, es, refl, r.2, sym (insert_rest [] es sorted)))

  module _ (put_key : K → Tree) (of_key : Tree → Option Kind) (takes_key : Tree → K → Type 0) (put_value : V → Tree) (of_value : Tree → Option Kind) (takes_value : Tree → V → Type 0)
      (kept_key : K → Type 0) (kept_value : V → Type 0) (back_key : (x : K) → kept_key x → TakenBackBy put_key of_key takes_key x) (back_value : (x : V) → kept_value x → TakenBackBy put_value of_value takes_value x) where
    pub map_kept : (es : List (K × V)) → IsStrictlySortedBy cmp (keys_of es) → All (λ e. kept_key e.0 × kept_value e.1) es
        → (fold (spec.map (written put_key of_key takes_key put_value of_value takes_value es)) ≡ Some (spec.map (written put_key of_key takes_key put_value of_value takes_value es))) × (first_refusal_of_pairs of_key of_value (written put_key of_key takes_key put_value of_value takes_value es) ≡ None)
        × ((ps : Pairs) × (fs : List (K × V)) × (spec.map (written put_key of_key takes_key put_value of_value takes_value es) ≡ spec.map ps) × EachPairTaken takes_key takes_value ps fs × (es ≡ inserted cmp fs))
    map_kept es sorted h = map_back put_key of_key takes_key put_value of_value takes_value es sorted (λ k d l. let e = h k d l in (back_key _ e.0, back_value _ e.1))

-- keys that are written alike are equal
module _ {K V : Type 0} (cmp : K → K → Ordering) (total : IsTotalOrder cmp) (put_key : K → Tree) (put_value : V → Tree) (alike : (x y : K) → put_key x ≡ put_key y → cmp x y ≡ Equal) where
  abbrev shown : K × V → Tree × Tree
  shown e = (put_key e.0, put_value e.1)

  same_cmp : (a b x y : K) → put_key a ≡ put_key b → put_key x ≡ put_key y → cmp a x ≡ cmp b y
  same_cmp a b x y e f = total.congr a b x (alike a b e) ∙ total.antisymm b x ∙ ap ordering_reverse (total.congr x y b (alike x y f)) ∙ sym (total.antisymm b y)

  shown_at : (o : Ordering) (m n : List (K × V)) (x y : K × V) (k l : K) (v w : V) → map shown m ≡ map shown n → shown x ≡ shown y → put_key k ≡ put_key l → put_value v ≡ put_value w
      → map shown (insert_entry cmp m k v) ≡ map shown (insert_entry cmp n l w)
      → map shown (match_ordering o ((k, v) ∷ x ∷ m) ((x.0, v) ∷ m) (x ∷ insert_entry cmp m k v)) ≡ map shown (match_ordering o ((l, w) ∷ y ∷ n) ((y.0, w) ∷ n) (y ∷ insert_entry cmp n l w))
  shown_at Less m n x y k l v w e s f g r =
      ap (λ (z : Tree). (z, put_value v) ∷ shown x ∷ map shown m) f ∙ ap (λ (z : Tree). (put_key l, z) ∷ shown x ∷ map shown m) g
      ∙ ap (λ (z : Tree × Tree). (put_key l, put_value w) ∷ z ∷ map shown m) s ∙ ap (λ (z : List (Tree × Tree)). (put_key l, put_value w) ∷ shown y ∷ z) e
  shown_at Equal m n x y k l v w e s f g r =
      ap (λ (z : Tree × Tree). (z.0, put_value v) ∷ map shown m) s ∙ ap (λ (z : Tree). (put_key y.0, z) ∷ map shown m) g
      ∙ ap (λ (z : List (Tree × Tree)). (put_key y.0, put_value w) ∷ z) e
  shown_at Greater m n x y k l v w e s f g r =
      ap (λ (z : Tree × Tree). z ∷ map shown (insert_entry cmp m k v)) s ∙ ap (λ (z : List (Tree × Tree)). shown y ∷ z) r

  insert_alike : (m n : List (K × V)) (k l : K) (v w : V) → map shown m ≡ map shown n → put_key k ≡ put_key l → put_value v ≡ put_value w
      → map shown (insert_entry cmp m k v) ≡ map shown (insert_entry cmp n l w)
  insert_alike [] [] k l v w e f g = ap (λ (z : Tree). (z, put_value v) ∷ []) f ∙ ap (λ (z : Tree). (put_key l, z) ∷ []) g
  insert_alike [] (y ∷ n) k l v w e f g = cc
  insert_alike (x ∷ m) [] k l v w e f g = cc
  insert_alike (x ∷ m) (y ∷ n) k l v w e f g =
      let s : shown x ≡ shown y = cc in
      let r : map shown m ≡ map shown n = cc in
      let o : cmp k x.0 ≡ cmp l y.0 = same_cmp k l x.0 y.0 f (ap (λ (z : Tree × Tree). z.0) s) in
      ap (λ z. map shown (match_ordering z ((k, v) ∷ x ∷ m) ((x.0, v) ∷ m) (x ∷ insert_entry cmp m k v))) o
      ∙ shown_at (cmp l y.0) m n x y k l v w r s f g (insert_alike m n k l v w r f g)

  all_alike : (m n es fs : List (K × V)) → map shown m ≡ map shown n → map shown es ≡ map shown fs
      → map shown (fold_list (λ z e. insert_entry cmp z e.0 e.1) m es) ≡ map shown (fold_list (λ z e. insert_entry cmp z e.0 e.1) n fs)
  all_alike m n [] [] e f = e
  all_alike m n [] (y ∷ fs) e f = cc
  all_alike m n (x ∷ es) [] e f = cc
  all_alike m n (x ∷ es) (y ∷ fs) e f =
      let s : shown x ≡ shown y = cc in
      let r : map shown es ≡ map shown fs = cc in
      all_alike (insert_entry cmp m x.0 x.1) (insert_entry cmp n y.0 y.1) es fs
      (insert_alike m n x.0 y.0 x.1 y.1 e (ap (λ (z : Tree × Tree). z.0) s) (ap (λ (z : Tree × Tree). z.1) s)) r

  module _ (takes_key : Tree → K → Type 0) (takes_value : Tree → V → Type 0) (one_key : TakesOne put_key takes_key) (one_value : TakesOne put_value takes_value) where
    entries_once : (ps : Pairs) (es fs : List (K × V)) → EachPairTaken takes_key takes_value ps es → EachPairTaken takes_key takes_value ps fs → map shown es ≡ map shown fs
    entries_once no_pairs [] [] a b = refl
    entries_once no_pairs [] (f ∷ fs) a b = elim b [ ]
    entries_once no_pairs (e ∷ es) fs a b = elim a [ ]
    entries_once (pair_more k v ps) [] fs a b = elim a [ ]
    entries_once (pair_more k v ps) (e ∷ es) [] a b = elim b [ ]
    entries_once (pair_more k v ps) (e ∷ es) (f ∷ fs) a b =
        ap (λ (z : Tree). (z, put_value e.1) ∷ map shown es) (one_key k e.0 f.0 a.0 b.0) ∙ ap (λ (z : Tree). (put_key f.0, z) ∷ map shown es) (one_value v e.1 f.1 a.1 b.1)
        ∙ ap (λ (z : List (Tree × Tree)). shown f ∷ z) (entries_once ps es fs a.2 b.2)

    abbrev MapTaken : Tree → List (K × V) → Type 0
    MapTaken t es = (ps : Pairs) × (gs : List (K × V)) × (t ≡ spec.map ps) × EachPairTaken takes_key takes_value ps gs × (es ≡ inserted cmp gs)

    pub map_once : (t : Tree) (es fs : List (K × V)) → MapTaken t es → MapTaken t fs → spec.map (pairs (map shown es)) ≡ spec.map (pairs (map shown fs))
    map_once t es fs a b =
        let p : spec.map a.0 ≡ spec.map b.0 = sym a.2 ∙ b.2 in
        let q : a.0 ≡ b.0 = cc in
        let r : map shown a.1 ≡ map shown b.1 = entries_once b.0 a.1 b.1 (subst (λ (z : Pairs). EachPairTaken takes_key takes_value z a.1) q a.3) b.3 in
        ap (λ (z : List (K × V)). spec.map (pairs (map shown z))) a.4
        ∙ ap (λ (z : List (Tree × Tree)). spec.map (pairs z)) (all_alike [] [] a.1 b.1 refl r)
        ∙ sym (ap (λ (z : List (K × V)). spec.map (pairs (map shown z))) b.4)
