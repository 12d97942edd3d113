-- The parts that were read are as written exactly when the unprotected header is.
use Rattle.std.proofs.Common.{◌≡◌, ℕ, List, [], ◌∷◌, ◌++◌, Bool, true, false, Option, Some, None, option_map, option_and_then, refl, sym, ap, ◌∙◌}
use Rattle.std.specs.Prelude.{◌&&◌, Decides}
use Rattle.ciborium_value.specs.Tree.{Tree, bytes, array, no_trees, one_more}
use Rattle.ciborium_value.specs.View.{trees}
use Rattle.coset_labels.specs.Arrays.{all_written}
use Rattle.coset_headers.specs.AsWritten.{is_canonical_header}
use Rattle.coset_headers.specs.Fields.{HeaderFields, ProtectedFields, protected}
use Rattle.coset_headers.specs.Headers.{HasProtected}
use Rattle.coset_headers.specs.Written.{header_tree, shown}
use Rattle.coset_headers.proofs.Canonical.{hdr_canonical, first_same, and_left, and_right, both_true}
use Rattle.coset_recipients.specs.PartsFields.{parts}
use Rattle.coset_recipients.specs.PartShapes.{HasParts, HasWhole}
use Rattle.coset_recipients.specs.PartsWritten.{optional_tree, parts_trees, whole_tree}
use Rattle.coset_recipients.proofs.PartsAgain.{parts_split}
use Rattle.coset_recipients.proofs.PartsKept.{whole_wrote}

shown_is : (n : ℕ) (p : ProtectedFields) (x : Tree) (k : ℕ) → HasProtected n x p k → (b : List ℕ) × (shown p ≡ Some b) × (bytes b ≡ x)
shown_is n (protected None g) x k a = let f : None ≡ Some a.0 = a.2 in absurd (let g : ⊥ = cc in g)
shown_is n (protected (Some b) g) x k a =
    let f : Some b ≡ Some a.0 = a.2 in
    let q : b ≡ a.0 = cc in
    (b, refl, ap bytes q ∙ sym a.1)

second_of : (a b c x y z : Tree) → a ∷ b ∷ c ∷ [] ≡ x ∷ y ∷ z ∷ [] → b ≡ y
second_of a b c x y z e = cc

pub parts_canonical : (n : ℕ) (x y z : Tree) (p : ProtectedFields) (u : HeaderFields) (c : Option (List ℕ)) (k : ℕ) → HasParts n x y z (parts p u c) k → Decides (is_canonical_header y) (parts_trees (parts p u c) ≡ Some (x ∷ y ∷ z ∷ []))
parts_canonical n x y z p u c k h =
    let d = hdr_canonical n u y k h.unprotected in
    let w = shown_is n p x k h.protected in (
      λ e.
          ap (option_and_then (λ b. option_map (λ t. bytes b ∷ t ∷ optional_tree c ∷ []) (header_tree u))) w.1
          ∙ ap (option_map (λ t. bytes w.0 ∷ t ∷ optional_tree c ∷ [])) (d.0 e)
          ∙ ap Some (ap (λ q. q ∷ y ∷ optional_tree c ∷ []) w.2 ∙ ap (λ q. x ∷ y ∷ q ∷ []) (sym h.content)),
      λ e. let v = parts_split p u c (x ∷ y ∷ z ∷ []) e in d.1 (v.3 ∙ ap Some (second_of _ _ _ _ _ _ v.4)),
    )

-- ---- the parts that an array begins with
trees_same : (xs ys : List Tree) → trees xs ≡ trees ys → xs ≡ ys
trees_same [] [] e = refl
trees_same [] (y ∷ ys) e = let h : no_trees ≡ one_more y (trees ys) = e in cc
trees_same (x ∷ xs) [] e = let h : one_more x (trees xs) ≡ no_trees = e in cc
trees_same (x ∷ xs) (y ∷ ys) e =
    let w = first_same x y (trees xs) (trees ys) e in
    ap (λ z. z ∷ xs) w.0 ∙ ap (λ z. y ∷ z) (trees_same xs ys w.1)

pub array_same : (xs ys : List Tree) → array (trees xs) ≡ array (trees ys) → xs ≡ ys
array_same xs ys e = trees_same xs ys (let h : trees xs ≡ trees ys = cc in h)

pub three_same : (a b c x y z : Tree) (us vs : List Tree) → a ∷ b ∷ c ∷ us ≡ x ∷ y ∷ z ∷ vs → (a ∷ b ∷ c ∷ [] ≡ x ∷ y ∷ z ∷ []) × (us ≡ vs)
three_same a b c x y z us vs e =
    let p : a ≡ x = cc in
    let q : b ≡ y = cc in
    let r : c ≡ z = cc in
    (ap (λ w. w ∷ b ∷ c ∷ []) p ∙ ap (λ w. x ∷ w ∷ c ∷ []) q ∙ ap (λ w. x ∷ y ∷ w ∷ []) r, (let s : us ≡ vs = cc in s))

pub parts_are : (p : ProtectedFields) (u : HeaderFields) (c : Option (List ℕ)) (ps ls : List Tree) (x y z : Tree) (rest : List Tree) → parts_trees (parts p u c) ≡ Some ps → array (trees (ps ++ ls)) ≡ array (trees (x ∷ y ∷ z ∷ rest))
    → (parts_trees (parts p u c) ≡ Some (x ∷ y ∷ z ∷ [])) × (ls ≡ rest)
parts_are p u c ps ls x y z rest e h =
    let s = parts_split p u c ps e in
    let m = three_same (bytes s.0) s.1 (optional_tree c) x y z ls rest (ap (λ us. us ++ ls) s.4 ∙ array_same (ps ++ ls) (x ∷ y ∷ z ∷ rest) h) in
    (e ∙ ap Some (sym s.4 ∙ m.0), m.1)

-- ---- a message: so are its unprotected header and its last items, of which b says it
pub and_true : (a : Bool) → (a && true) ≡ a
and_true true = refl
and_true false = refl

pub whole_canonical : (n : ℕ) (t : Tree) (p : ProtectedFields) (u : HeaderFields) (c : Option (List ℕ)) (Ps : List (Tree → Type 0)) (os : List (Option Tree)) (k : ℕ) (h : HasWhole n t (parts p u c) Ps k) (b : Bool)
    → Decides b (all_written (λ o. o) os ≡ Some h.lasts) → Decides (is_canonical_header h.second && b) (whole_tree (parts p u c) os ≡ Some t)
whole_canonical n t p u c Ps os k h b l =
    let d = parts_canonical n h.first h.second h.third p u c k h.parts in (
      λ e.
          ap (option_and_then (λ parts. option_map (λ ls. array (trees (parts ++ ls))) (all_written (λ o. o) os))) (d.0 (and_left (is_canonical_header h.second) b e))
          ∙ ap (option_map (λ ls. array (trees (h.first ∷ h.second ∷ h.third ∷ ls)))) (l.0 (and_right (is_canonical_header h.second) b e)) ∙ ap Some (sym h.is),
      λ e.
          let w = whole_wrote p u c os t e in
          let v = parts_are p u c w.firsts w.lasts h.first h.second h.third h.lasts w.firsts_are (w.is ∙ h.is) in
          both_true (is_canonical_header h.second) b (d.1 v.0) (l.1 (w.lasts_are ∙ ap Some v.1)),
    )
