-- Values with a tag around them are taken back, and of an item one is taken.
use Rattle.std.proofs.Common.{◌≡◌, ℕ, Bool, true, false, cond, ◌&&◌, ◌||◌, nat_eq, Option, Some, None, MatchOption, refl, sym, ap, subst, ◌∙◌, arith}
use Rattle.std.proofs.lemmas.Bool.{false≢true}
use Rattle.std.proofs.lemmas.Bool.Decides.{nat_tests}
use Rattle.std.specs.Option.{option_and_then}
use Rattle.ciborium_value.specs.declared.kind.Kind.{Kind}
use Rattle.ciborium_value.specs.declared.kind.Kind.TheVariants as kind
use Rattle.ciborium_value.specs.Folding.{fold, tagged, fold_bytes}
use Rattle.ciborium_value.specs.Kinds.{is_tag}
use Rattle.ciborium_value.specs.Tree as spec
use Rattle.ciborium_value.specs.Tree.{Tree, opens_none}
use Rattle.ciborium_traits.specs.Back.{TakenBackBy, TakesOne}
use Rattle.ciborium_typed.specs.Tags.{tagged_tree, outer_tag, inside, required_refusal, accepted_refusal, AcceptedTaken}

-- folding leaves a tag that opens a level as it is
tag_kept : (n : ℕ) (t : Tree) → opens_none n t ≡ false → tagged n t ≡ Some (spec.tag n t)
tag_kept n (spec.bytes b) e = at (nat_eq n 2 || nat_eq n 3) e
  where
    at : (c : Bool) → (c && true) ≡ false → cond c (fold_bytes n b) (Some (spec.tag n (spec.bytes b))) ≡ Some (spec.tag n (spec.bytes b))
    at true h = absurd (false≢true (sym h))
    at false h = refl
tag_kept n (spec.integer i) e = refl
tag_kept n (spec.text b) e = refl
tag_kept n (spec.array ts) e = refl
tag_kept n (spec.map ps) e = refl
tag_kept n (spec.tag m t) e = refl
tag_kept n (spec.simple m) e = refl
tag_kept n (spec.float f) e = refl

tag_folded : (n : ℕ) (t : Tree) → fold t ≡ Some t → opens_none n t ≡ false → fold (spec.tag n t) ≡ Some (spec.tag n t)
tag_folded n t a b = ap (option_and_then (tagged n)) a ∙ tag_kept n t b

no_tag_outside : (t : Tree) → is_tag t ≡ false → None ≡ outer_tag t
no_tag_outside (spec.tag n t) e = absurd (false≢true (sym e))
no_tag_outside (spec.integer i) e = refl
no_tag_outside (spec.bytes b) e = refl
no_tag_outside (spec.text b) e = refl
no_tag_outside (spec.array ts) e = refl
no_tag_outside (spec.map ps) e = refl
no_tag_outside (spec.simple n) e = refl
no_tag_outside (spec.float f) e = refl

no_tag_inside : (t : Tree) → is_tag t ≡ false → inside t ≡ t
no_tag_inside (spec.tag n t) e = absurd (false≢true (sym e))
no_tag_inside (spec.integer i) e = refl
no_tag_inside (spec.bytes b) e = refl
no_tag_inside (spec.text b) e = refl
no_tag_inside (spec.array ts) e = refl
no_tag_inside (spec.map ps) e = refl
no_tag_inside (spec.simple n) e = refl
no_tag_inside (spec.float f) e = refl

same_tag : (n : ℕ) → nat_eq n n ≡ true
same_tag n = grind (arith, nat_tests)

module _ {T : Type 0} (put : T → Tree) (refusal : Tree → Option Kind) (takes : Tree → T → Type 0) where
  abbrev Back : T → Type 0
  Back x = TakenBackBy put refusal takes x

  pub captured_back : (o : Option ℕ) (x : T) → Back x → MatchOption o (is_tag (put x) ≡ false) (λ n. opens_none n (put x) ≡ false)
      → (fold (tagged_tree o (put x)) ≡ Some (tagged_tree o (put x))) × (refusal (inside (tagged_tree o (put x))) ≡ None)
      × ((o ≡ outer_tag (tagged_tree o (put x))) × takes (inside (tagged_tree o (put x))) x)
  captured_back None x h e =
      let i = no_tag_inside (put x) e in
      (h.0, ap refusal i ∙ h.1, (no_tag_outside (put x) e, subst (λ (z : Tree). takes z x) (sym i) h.2))
  captured_back (Some n) x h e = (tag_folded n (put x) h.0 e, h.1, (refl, h.2))

  pub required_back : (n : ℕ) (x : T) → Back x → opens_none n (put x) ≡ false
      → (fold (spec.tag n (put x)) ≡ Some (spec.tag n (put x))) × (required_refusal n refusal (spec.tag n (put x)) ≡ None) × ((t : Tree) × (spec.tag n (put x) ≡ spec.tag n t) × takes t x)
  required_back n x h e = (tag_folded n (put x) h.0 e, ap (λ z. cond z (refusal (put x)) (Some kind.Tag)) (same_tag n) ∙ h.1, (put x, refl, h.2))

  pub accepted_back : (n : ℕ) (x : T) → Back x → opens_none n (put x) ≡ false
      → (fold (spec.tag n (put x)) ≡ Some (spec.tag n (put x))) × (accepted_refusal n refusal (spec.tag n (put x)) ≡ None) × AcceptedTaken n takes (spec.tag n (put x)) x
  accepted_back n x h e = (tag_folded n (put x) h.0 e, ap (λ z. cond z (refusal (put x)) (Some kind.Tag)) (same_tag n) ∙ h.1, (refl, h.2))

module _ {T : Type 0} (put : T → Tree) (takes : Tree → T → Type 0) (one : TakesOne put takes) where
  pub captured_once : (t : Tree) (o p : Option ℕ) (x y : T) → (o ≡ outer_tag t) × takes (inside t) x → (p ≡ outer_tag t) × takes (inside t) y → tagged_tree o (put x) ≡ tagged_tree p (put y)
  captured_once t o p x y a b = ap (λ z. tagged_tree z (put x)) (a.0 ∙ sym b.0) ∙ ap (tagged_tree p) (one (inside t) x y a.1 b.1)

  pub required_once : (n : ℕ) (t : Tree) (x y : T) → ((u : Tree) × (t ≡ spec.tag n u) × takes u x) → ((u : Tree) × (t ≡ spec.tag n u) × takes u y) → spec.tag n (put x) ≡ spec.tag n (put y)
  required_once n t x y a b =
      let e : spec.tag n a.0 ≡ spec.tag n b.0 = sym a.1 ∙ b.1 in
      let f : a.0 ≡ b.0 = cc in
      ap (spec.tag n) (one b.0 x y (subst (λ (z : Tree). takes z x) f a.2) b.2)

  pub accepted_once : (n : ℕ) (t : Tree) (x y : T) → AcceptedTaken n takes t x → AcceptedTaken n takes t y → spec.tag n (put x) ≡ spec.tag n (put y)
  accepted_once n (spec.tag m t) x y a b = ap (spec.tag n) (one t x y a.1 b.1)
  accepted_once n (spec.integer i) x y a b = ap (spec.tag n) (one (spec.integer i) x y a b)
  accepted_once n (spec.bytes c) x y a b = ap (spec.tag n) (one (spec.bytes c) x y a b)
  accepted_once n (spec.text c) x y a b = ap (spec.tag n) (one (spec.text c) x y a b)
  accepted_once n (spec.array ts) x y a b = ap (spec.tag n) (one (spec.array ts) x y a b)
  accepted_once n (spec.map ps) x y a b = ap (spec.tag n) (one (spec.map ps) x y a b)
  accepted_once n (spec.simple m) x y a b = ap (spec.tag n) (one (spec.simple m) x y a b)
  accepted_once n (spec.float f) x y a b = ap (spec.tag n) (one (spec.float f) x y a b)
