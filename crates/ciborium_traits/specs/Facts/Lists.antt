-- Options and lists are taken back.
use Rattle.std.proofs.Common.{◌≡◌, suc, false, cond, List, [], ◌∷◌, map, Option, Some, None, All, MatchOption, refl, ap, ◌∙◌, arith}
use Rattle.std.specs.Prelude.{⊤}
use Rattle.std.specs.Option.{option_map, option_and_then, option_or}
use Rattle.ciborium_value.specs.declared.kind.Kind.{Kind}
use Rattle.ciborium_value.specs.Folding.{fold, fold_all_by, fold_pairs_by}
use Rattle.ciborium_value.specs.Kinds.{is_null}
use Rattle.ciborium_value.specs.Tree as spec
use Rattle.ciborium_value.specs.Tree.{Tree, Trees, one_more, Pairs, pair_more}
use Rattle.ciborium_value.specs.View.{trees}
use Rattle.ciborium_traits.specs.Back.{TakenBackBy}
use Rattle.ciborium_traits.specs.Lists.{first_refusal, first_in_turn, EachTaken, OptionalTaken, optional_refusal, optional_tree}

pub none_first : (p q : Option Kind) → p ≡ None → option_or p q ≡ q
none_first p q e = ap (λ z. option_or z q) e

abbrev pub folds : Trees → Option Trees
folds = fold_all_by (λ n. Some (spec.simple n))

abbrev pub folds_pairs : Pairs → Option Pairs
folds_pairs = fold_pairs_by (λ n. Some (spec.simple n))

pub item_folded : (t : Tree) (ts : Trees) → fold t ≡ Some t → folds ts ≡ Some ts → folds (one_more t ts) ≡ Some (one_more t ts)
item_folded t ts a b = ap (option_and_then (λ u. option_map (one_more u) (folds ts))) a ∙ ap (option_map (one_more t)) b

pub entry_folded : (k v : Tree) (ps : Pairs) → fold k ≡ Some k → fold v ≡ Some v → folds_pairs ps ≡ Some ps → folds_pairs (pair_more k v ps) ≡ Some (pair_more k v ps)
entry_folded k v ps a b c =
    ap (option_and_then (λ x. option_and_then (λ y. option_map (pair_more x y) (folds_pairs ps)) (fold v))) a ∙ ap (option_and_then (λ y. option_map (pair_more k y) (folds_pairs ps))) b ∙ ap (option_map (pair_more k v)) c

pub turn_none : (r : Tree → Option Kind) (rs : List (Tree → Option Kind)) (t : Tree) (ts : Trees) → r t ≡ None → first_in_turn rs ts ≡ None → first_in_turn (r ∷ rs) (one_more t ts) ≡ None
turn_none r rs t ts a b = none_first (r t) (first_in_turn rs ts) a ∙ b

pub all_first : {X : Type 0} (P : X → Type 0) (x : X) (xs : List X) → All P (x ∷ xs) → P x
all_first P x xs h = h 0 x (omega arith)

pub all_others : {X : Type 0} (P : X → Type 0) (x : X) (xs : List X) → All P (x ∷ xs) → All P xs
all_others P x xs h = λ k d l. h (suc k) d (omega (arith, l))

module _ {T : Type 0} (put : T → Tree) (refusal : Tree → Option Kind) (takes : Tree → T → Type 0) where
  abbrev Back : T → Type 0
  Back x = TakenBackBy put refusal takes x

  pub option_back : (x : T) → Back x → is_null (put x) ≡ false → (fold (put x) ≡ Some (put x)) × (optional_refusal refusal (put x) ≡ None) × ((is_null (put x) ≡ false) × takes (put x) x)
  option_back x h e = (h.0, ap (λ z. cond z None (refusal (put x))) e ∙ h.1, (e, h.2))

  items_back : (xs : List T) → All Back xs
      → (folds (trees (map put xs)) ≡ Some (trees (map put xs))) × (first_refusal refusal (trees (map put xs)) ≡ None) × EachTaken takes (trees (map put xs)) xs
  items_back [] h = (refl, refl, tt)
  items_back (x ∷ xs) h =
      let f = all_first Back x xs h in
      let r = items_back xs (all_others Back x xs h) in
      (item_folded (put x) (trees (map put xs)) f.0 r.0, none_first (refusal (put x)) (first_refusal refusal (trees (map put xs))) f.1 ∙ r.1, (f.2, r.2))

  pub list_back : (xs : List T) → All Back xs
      → (fold (spec.array (trees (map put xs))) ≡ Some (spec.array (trees (map put xs)))) × (first_refusal refusal (trees (map put xs)) ≡ None)
      × ((ts : Trees) × (spec.array (trees (map put xs)) ≡ spec.array ts) × EachTaken takes ts xs)
  list_back xs h = let r = items_back xs h in (ap (option_map spec.array) r.0, r.1, (trees (map put xs), refl, r.2))

module _ {T : Type 0} (put : T → Tree) (refusal : Tree → Option Kind) (takes : Tree → T → Type 0) (kept : T → Type 0) (back : (x : T) → kept x → TakenBackBy put refusal takes x) where
  pub option_kept : (o : Option T) → MatchOption o ⊤ (λ x. kept x × (is_null (put x) ≡ false)) → TakenBackBy (optional_tree put) (optional_refusal refusal) (OptionalTaken takes) o
  option_kept None h = (refl, refl, refl)
  option_kept (Some x) h = option_back put refusal takes x (back x h.0) h.1

  pub list_kept : (xs : List T) → All kept xs
      → (fold (spec.array (trees (map put xs))) ≡ Some (spec.array (trees (map put xs)))) × (first_refusal refusal (trees (map put xs)) ≡ None)
      × ((ts : Trees) × (spec.array (trees (map put xs)) ≡ spec.array ts) × EachTaken takes ts xs)
  list_kept xs h = list_back put refusal takes xs (λ k d l. back _ (h k d l))
