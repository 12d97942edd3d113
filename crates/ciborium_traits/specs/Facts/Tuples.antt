-- Tuples are taken back, and of an item one is taken.
use Rattle.std.proofs.Common.{◌≡◌, List, [], ◌∷◌, length, true, cond, nat_eq, Option, Some, None, refl, sym, ap, subst, ◌∙◌, arith}
use Rattle.std.proofs.lemmas.Bool.Decides.{nat_tests}
use Rattle.std.specs.Option.{option_map}
use Rattle.ciborium_value.specs.declared.kind.Kind.{Kind}
use Rattle.ciborium_value.specs.declared.kind.Kind.TheVariants.{Length}
use Rattle.ciborium_value.specs.Folding.{fold}
use Rattle.ciborium_value.specs.Tree as spec
use Rattle.ciborium_value.specs.Tree.{Tree, Trees, no_trees, one_more, tree_count}
use Rattle.ciborium_value.specs.View.{trees}
use Rattle.ciborium_traits.specs.Back.{TakenBackBy, TakesOne}
use Rattle.ciborium_traits.specs.Lists.{first_in_turn, tuple_refusal}
use Rattle.ciborium_traits.specs.Facts.Lists.{none_first, folds, item_folded}

-- the items are folded, and each is one of its type
record Parts (rs : List (Tree → Option Kind)) (ts : Trees) : Type 0 where
  folded : folds ts ≡ Some ts
  none : first_in_turn rs ts ≡ None
  count : tree_count ts ≡ length rs

no_parts : Parts [] no_trees
no_parts = record { folded = refl; none = refl; count = refl }

part_more : (r : Tree → Option Kind) (rs : List (Tree → Option Kind)) (t : Tree) (ts : Trees) → fold t ≡ Some t → r t ≡ None → Parts rs ts → Parts (r ∷ rs) (one_more t ts)
part_more r rs t ts a b p = record {
  folded = item_folded t ts a p.folded;
  none = none_first (r t) (first_in_turn rs ts) b ∙ p.none;
  count = let h = p.count in omega arith;
}

same_count : (rs : List (Tree → Option Kind)) (ts : Trees) → tree_count ts ≡ length rs → nat_eq (tree_count ts) (length rs) ≡ true
same_count rs ts e = grind (arith, nat_tests)

whole : (rs : List (Tree → Option Kind)) (ts : Trees) → Parts rs ts → (fold (spec.array ts) ≡ Some (spec.array ts)) × (tuple_refusal rs ts ≡ None)
whole rs ts p = (ap (option_map spec.array) p.folded, ap (λ z. cond z (first_in_turn rs ts) (Some Length)) (same_count rs ts p.count) ∙ p.none)

part_once : {A : Type 0} (put : A → Tree) (takes : Tree → A → Type 0) (one : TakesOne put takes) (s t : Tree) (x y : A) → s ≡ t → takes s x → takes t y → put x ≡ put y
part_once put takes one s t x y e a b = one t x y (subst (λ (z : Tree). takes z x) e a) b

module _ {A : Type 0} (put_a : A → Tree) (refusal_a : Tree → Option Kind) (takes_a : Tree → A → Type 0) where
  pub one_back : (x_a : A) → TakenBackBy put_a refusal_a takes_a x_a
      → (fold (spec.array (trees (put_a x_a ∷ []))) ≡ Some (spec.array (trees (put_a x_a ∷ [])))) × (tuple_refusal (refusal_a ∷ []) (trees (put_a x_a ∷ [])) ≡ None) × ((a : Tree) × (spec.array (trees (put_a x_a ∷ [])) ≡ spec.array (trees (a ∷ []))) × takes_a a x_a)
  one_back x_a h_a =
      let p = whole (refusal_a ∷ []) (trees (put_a x_a ∷ [])) (part_more refusal_a [] (put_a x_a) no_trees h_a.0 h_a.1 no_parts) in
      (p.0, p.1, (put_a x_a, refl, h_a.2))

module _ {A : Type 0} (put_a : A → Tree) (takes_a : Tree → A → Type 0) (one_a : TakesOne put_a takes_a) where
  pub one_once : (t : Tree) (x_a y_a : A) → ((a : Tree) × (t ≡ spec.array (trees (a ∷ []))) × takes_a a x_a) → ((a : Tree) × (t ≡ spec.array (trees (a ∷ []))) × takes_a a y_a)
      → spec.array (trees (put_a x_a ∷ [])) ≡ spec.array (trees (put_a y_a ∷ []))
  one_once t x_a y_a h i =
      let e : spec.array (one_more h.0 no_trees) ≡ spec.array (one_more i.0 no_trees) = sym h.1 ∙ i.1 in
      let e_a : h.0 ≡ i.0 = cc in
      ap (λ (z : Tree). spec.array (trees (z ∷ []))) (part_once put_a takes_a one_a h.0 i.0 x_a y_a e_a h.2 i.2)

module _ {A : Type 0} {B : Type 0} (put_a : A → Tree) (refusal_a : Tree → Option Kind) (takes_a : Tree → A → Type 0) (put_b : B → Tree) (refusal_b : Tree → Option Kind) (takes_b : Tree → B → Type 0) where
  pub two_back : (x_a : A) (x_b : B) → TakenBackBy put_a refusal_a takes_a x_a → TakenBackBy put_b refusal_b takes_b x_b
      → (fold (spec.array (trees (put_a x_a ∷ put_b x_b ∷ []))) ≡ Some (spec.array (trees (put_a x_a ∷ put_b x_b ∷ [])))) × (tuple_refusal (refusal_a ∷ refusal_b ∷ []) (trees (put_a x_a ∷ put_b x_b ∷ [])) ≡ None) × ((a b : Tree) × (spec.array (trees (put_a x_a ∷ put_b x_b ∷ [])) ≡ spec.array (trees (a ∷ b ∷ []))) × takes_a a x_a × takes_b b x_b)
  two_back x_a x_b h_a h_b =
      let p = whole (refusal_a ∷ refusal_b ∷ []) (trees (put_a x_a ∷ put_b x_b ∷ [])) (part_more refusal_a (refusal_b ∷ []) (put_a x_a) (trees (put_b x_b ∷ [])) h_a.0 h_a.1 (part_more refusal_b [] (put_b x_b) no_trees h_b.0 h_b.1 no_parts)) in
      (p.0, p.1, (put_a x_a, put_b x_b, refl, h_a.2, h_b.2))

module _ {A : Type 0} {B : Type 0} (put_a : A → Tree) (takes_a : Tree → A → Type 0) (one_a : TakesOne put_a takes_a) (put_b : B → Tree) (takes_b : Tree → B → Type 0) (one_b : TakesOne put_b takes_b) where
  pub two_once : (t : Tree) (x_a y_a : A) (x_b y_b : B) → ((a b : Tree) × (t ≡ spec.array (trees (a ∷ b ∷ []))) × takes_a a x_a × takes_b b x_b) → ((a b : Tree) × (t ≡ spec.array (trees (a ∷ b ∷ []))) × takes_a a y_a × takes_b b y_b)
      → spec.array (trees (put_a x_a ∷ put_b x_b ∷ [])) ≡ spec.array (trees (put_a y_a ∷ put_b y_b ∷ []))
  two_once t x_a y_a x_b y_b h i =
      let e : spec.array (one_more h.0 (one_more h.1 no_trees)) ≡ spec.array (one_more i.0 (one_more i.1 no_trees)) = sym h.2 ∙ i.2 in
      let e_a : h.0 ≡ i.0 = cc in
      let e_b : h.1 ≡ i.1 = cc in
      ap (λ (z : Tree). spec.array (trees (z ∷ put_b x_b ∷ []))) (part_once put_a takes_a one_a h.0 i.0 x_a y_a e_a h.3 i.3)
      ∙ ap (λ (z : Tree). spec.array (trees (put_a y_a ∷ z ∷ []))) (part_once put_b takes_b one_b h.1 i.1 x_b y_b e_b h.4 i.4)

module _ {A : Type 0} {B : Type 0} {C : Type 0} (put_a : A → Tree) (refusal_a : Tree → Option Kind) (takes_a : Tree → A → Type 0) (put_b : B → Tree) (refusal_b : Tree → Option Kind) (takes_b : Tree → B → Type 0) (put_c : C → Tree) (refusal_c : Tree → Option Kind) (takes_c : Tree → C → Type 0) where
  pub three_back : (x_a : A) (x_b : B) (x_c : C) → TakenBackBy put_a refusal_a takes_a x_a → TakenBackBy put_b refusal_b takes_b x_b → TakenBackBy put_c refusal_c takes_c x_c
      → (fold (spec.array (trees (put_a x_a ∷ put_b x_b ∷ put_c x_c ∷ []))) ≡ Some (spec.array (trees (put_a x_a ∷ put_b x_b ∷ put_c x_c ∷ [])))) × (tuple_refusal (refusal_a ∷ refusal_b ∷ refusal_c ∷ []) (trees (put_a x_a ∷ put_b x_b ∷ put_c x_c ∷ [])) ≡ None) × ((a b c : Tree) × (spec.array (trees (put_a x_a ∷ put_b x_b ∷ put_c x_c ∷ [])) ≡ spec.array (trees (a ∷ b ∷ c ∷ []))) × takes_a a x_a × takes_b b x_b × takes_c c x_c)
  three_back x_a x_b x_c h_a h_b h_c =
      let p = whole (refusal_a ∷ refusal_b ∷ refusal_c ∷ []) (trees (put_a x_a ∷ put_b x_b ∷ put_c x_c ∷ [])) (part_more refusal_a (refusal_b ∷ refusal_c ∷ []) (put_a x_a) (trees (put_b x_b ∷ put_c x_c ∷ [])) h_a.0 h_a.1 (part_more refusal_b (refusal_c ∷ []) (put_b x_b) (trees (put_c x_c ∷ [])) h_b.0 h_b.1 (part_more refusal_c [] (put_c x_c) no_trees h_c.0 h_c.1 no_parts))) in
      (p.0, p.1, (put_a x_a, put_b x_b, put_c x_c, refl, h_a.2, h_b.2, h_c.2))

module _ {A : Type 0} {B : Type 0} {C : Type 0} (put_a : A → Tree) (takes_a : Tree → A → Type 0) (one_a : TakesOne put_a takes_a) (put_b : B → Tree) (takes_b : Tree → B → Type 0) (one_b : TakesOne put_b takes_b) (put_c : C → Tree) (takes_c : Tree → C → Type 0) (one_c : TakesOne put_c takes_c) where
  pub three_once : (t : Tree) (x_a y_a : A) (x_b y_b : B) (x_c y_c : C) → ((a b c : Tree) × (t ≡ spec.array (trees (a ∷ b ∷ c ∷ []))) × takes_a a x_a × takes_b b x_b × takes_c c x_c) → ((a b c : Tree) × (t ≡ spec.array (trees (a ∷ b ∷ c ∷ []))) × takes_a a y_a × takes_b b y_b × takes_c c y_c)
      → spec.array (trees (put_a x_a ∷ put_b x_b ∷ put_c x_c ∷ [])) ≡ spec.array (trees (put_a y_a ∷ put_b y_b ∷ put_c y_c ∷ []))
  three_once t x_a y_a x_b y_b x_c y_c h i =
      let e : spec.array (one_more h.0 (one_more h.1 (one_more h.2 no_trees))) ≡ spec.array (one_more i.0 (one_more i.1 (one_more i.2 no_trees))) = sym h.3 ∙ i.3 in
      let e_a : h.0 ≡ i.0 = cc in
      let e_b : h.1 ≡ i.1 = cc in
      let e_c : h.2 ≡ i.2 = cc in
      ap (λ (z : Tree). spec.array (trees (z ∷ put_b x_b ∷ put_c x_c ∷ []))) (part_once put_a takes_a one_a h.0 i.0 x_a y_a e_a h.4 i.4)
      ∙ ap (λ (z : Tree). spec.array (trees (put_a y_a ∷ z ∷ put_c x_c ∷ []))) (part_once put_b takes_b one_b h.1 i.1 x_b y_b e_b h.5 i.5)
      ∙ ap (λ (z : Tree). spec.array (trees (put_a y_a ∷ put_b y_b ∷ z ∷ []))) (part_once put_c takes_c one_c h.2 i.2 x_c y_c e_c h.6 i.6)

module _ {A : Type 0} {B : Type 0} {C : Type 0} {D : Type 0} (put_a : A → Tree) (refusal_a : Tree → Option Kind) (takes_a : Tree → A → Type 0) (put_b : B → Tree) (refusal_b : Tree → Option Kind) (takes_b : Tree → B → Type 0) (put_c : C → Tree) (refusal_c : Tree → Option Kind) (takes_c : Tree → C → Type 0) (put_d : D → Tree) (refusal_d : Tree → Option Kind) (takes_d : Tree → D → Type 0) where
  pub four_back : (x_a : A) (x_b : B) (x_c : C) (x_d : D) → TakenBackBy put_a refusal_a takes_a x_a → TakenBackBy put_b refusal_b takes_b x_b → TakenBackBy put_c refusal_c takes_c x_c → TakenBackBy put_d refusal_d takes_d x_d
      → (fold (spec.array (trees (put_a x_a ∷ put_b x_b ∷ put_c x_c ∷ put_d x_d ∷ []))) ≡ Some (spec.array (trees (put_a x_a ∷ put_b x_b ∷ put_c x_c ∷ put_d x_d ∷ [])))) × (tuple_refusal (refusal_a ∷ refusal_b ∷ refusal_c ∷ refusal_d ∷ []) (trees (put_a x_a ∷ put_b x_b ∷ put_c x_c ∷ put_d x_d ∷ [])) ≡ None) × ((a b c d : Tree) × (spec.array (trees (put_a x_a ∷ put_b x_b ∷ put_c x_c ∷ put_d x_d ∷ [])) ≡ spec.array (trees (a ∷ b ∷ c ∷ d ∷ []))) × takes_a a x_a × takes_b b x_b × takes_c c x_c × takes_d d x_d)
  four_back x_a x_b x_c x_d h_a h_b h_c h_d =
      let p = whole (refusal_a ∷ refusal_b ∷ refusal_c ∷ refusal_d ∷ []) (trees (put_a x_a ∷ put_b x_b ∷ put_c x_c ∷ put_d x_d ∷ [])) (part_more refusal_a (refusal_b ∷ refusal_c ∷ refusal_d ∷ []) (put_a x_a) (trees (put_b x_b ∷ put_c x_c ∷ put_d x_d ∷ [])) h_a.0 h_a.1 (part_more refusal_b (refusal_c ∷ refusal_d ∷ []) (put_b x_b) (trees (put_c x_c ∷ put_d x_d ∷ [])) h_b.0 h_b.1 (part_more refusal_c (refusal_d ∷ []) (put_c x_c) (trees (put_d x_d ∷ [])) h_c.0 h_c.1 (part_more refusal_d [] (put_d x_d) no_trees h_d.0 h_d.1 no_parts)))) in
      (p.0, p.1, (put_a x_a, put_b x_b, put_c x_c, put_d x_d, refl, h_a.2, h_b.2, h_c.2, h_d.2))

module _ {A : Type 0} {B : Type 0} {C : Type 0} {D : Type 0} (put_a : A → Tree) (takes_a : Tree → A → Type 0) (one_a : TakesOne put_a takes_a) (put_b : B → Tree) (takes_b : Tree → B → Type 0) (one_b : TakesOne put_b takes_b) (put_c : C → Tree) (takes_c : Tree → C → Type 0) (one_c : TakesOne put_c takes_c) (put_d : D → Tree) (takes_d : Tree → D → Type 0) (one_d : TakesOne put_d takes_d) where
  pub four_once : (t : Tree) (x_a y_a : A) (x_b y_b : B) (x_c y_c : C) (x_d y_d : D) → ((a b c d : Tree) × (t ≡ spec.array (trees (a ∷ b ∷ c ∷ d ∷ []))) × takes_a a x_a × takes_b b x_b × takes_c c x_c × takes_d d x_d) → ((a b c d : Tree) × (t ≡ spec.array (trees (a ∷ b ∷ c ∷ d ∷ []))) × takes_a a y_a × takes_b b y_b × takes_c c y_c × takes_d d y_d)
      → spec.array (trees (put_a x_a ∷ put_b x_b ∷ put_c x_c ∷ put_d x_d ∷ [])) ≡ spec.array (trees (put_a y_a ∷ put_b y_b ∷ put_c y_c ∷ put_d y_d ∷ []))
  four_once t x_a y_a x_b y_b x_c y_c x_d y_d h i =
      let e : spec.array (one_more h.0 (one_more h.1 (one_more h.2 (one_more h.3 no_trees)))) ≡ spec.array (one_more i.0 (one_more i.1 (one_more i.2 (one_more i.3 no_trees)))) = sym h.4 ∙ i.4 in
      let e_a : h.0 ≡ i.0 = cc in
      let e_b : h.1 ≡ i.1 = cc in
      let e_c : h.2 ≡ i.2 = cc in
      let e_d : h.3 ≡ i.3 = cc in
      ap (λ (z : Tree). spec.array (trees (z ∷ put_b x_b ∷ put_c x_c ∷ put_d x_d ∷ []))) (part_once put_a takes_a one_a h.0 i.0 x_a y_a e_a h.5 i.5)
      ∙ ap (λ (z : Tree). spec.array (trees (put_a y_a ∷ z ∷ put_c x_c ∷ put_d x_d ∷ []))) (part_once put_b takes_b one_b h.1 i.1 x_b y_b e_b h.6 i.6)
      ∙ ap (λ (z : Tree). spec.array (trees (put_a y_a ∷ put_b y_b ∷ z ∷ put_d x_d ∷ []))) (part_once put_c takes_c one_c h.2 i.2 x_c y_c e_c h.7 i.7)
      ∙ ap (λ (z : Tree). spec.array (trees (put_a y_a ∷ put_b y_b ∷ put_c y_c ∷ z ∷ []))) (part_once put_d takes_d one_d h.3 i.3 x_d y_d e_d h.8 i.8)
