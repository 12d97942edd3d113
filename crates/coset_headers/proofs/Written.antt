-- What writing a header shows.
use Rattle.std.proofs.Common.{◌≡◌, ℕ, zero, suc, ◌+◌, ◌<◌, inl, inr, List, [], ◌∷◌, ◌++◌, length, map, take, get_or, Bool, true, false, Option, Some, None, option_map, option_and_then, refl, sym, ap, subst, ◌∙◌, arith}
use Rattle.std.specs.Prelude.{◌||◌, ◌==◌}
use borrow.Author.Tests.{eqb-true}
use Rattle.std.specs.Ordering.{is_eq}
use Rattle.std.proofs.lemmas.List.{map-append, take_more}
use Rattle.ciborium_value.specs.Tree.{Tree, Trees, one_more}
use Rattle.ciborium_value.specs.View.{trees, view, views}
use Rattle.ciborium_value.specs.declared.value.Value.{Value}
use Rattle.coset_labels.specs.Arrays.{all_written}
use Rattle.coset_labels.specs.Faults.{CantWrite}
use Rattle.coset_labels.specs.Fields.{LabelFields}
use Rattle.coset_labels.specs.Orders.{label_cmp}
use Rattle.coset_labels.specs.Facts.Orders.{labels_same}
use Rattle.coset_labels.specs.View.{label_view}
use Rattle.coset_labels.specs.declared.error.CoseError.{CoseError}
use Rattle.coset_labels.specs.declared.label.Label.{Label}
use Rattle.coset_labels.specs.declared.seen_labels.SeenLabels.{SeenLabels}
use Rattle.coset_labels.proofs.Arrays.{written_none, written_pushed}
use Rattle.coset_headers.specs.Fields.{SignatureFields, signatures}
use Rattle.coset_headers.specs.Headers.{IsIn, Distinct}
use Rattle.coset_headers.specs.Parts.{SeesLabels}
use Rattle.coset_headers.specs.View.{entry_view, signature_view, signatures_view}
use Rattle.coset_headers.specs.Written.{stands, twice, is_unsigned, signature_tree, signature_trees}
use Rattle.coset_headers.specs.declared.header.CoseSignature.{CoseSignature}
use Rattle.coset_headers.proofs.Entered.{distinct_snoc}

-- ---- a label that is twice
or_true : (b : Bool) → (b || true) ≡ true
or_true true = refl
or_true false = refl

not_true : (b : Bool) → (b ≡ true → ⊥) → b ≡ false
not_true true h = absurd (h refl)
not_true false h = refl

or_false : (a b : Bool) → a ≡ false → b ≡ false → (a || b) ≡ false
or_false a b e f = ap (λ z. z || b) e ∙ f

stands_in : (l : LabelFields) (es : List (LabelFields × Tree)) → IsIn l es → stands l es ≡ true
stands_in l [] i = absurd i
stands_in l (e ∷ es) (inl q) = ap (λ z. z || stands l es) ((labels_same l e.0).1 q)
stands_in l (e ∷ es) (inr i) = ap (λ z. is_eq (label_cmp l e.0) || z) (stands_in l es i) ∙ or_true (is_eq (label_cmp l e.0))

stands_not : (l : LabelFields) (es : List (LabelFields × Tree)) → (IsIn l es → ⊥) → stands l es ≡ false
stands_not l [] n = refl
stands_not l (e ∷ es) n =
    or_false (is_eq (label_cmp l e.0)) (stands l es) (not_true (is_eq (label_cmp l e.0)) (λ h. n (inl ((labels_same l e.0).0 h)))) (stands_not l es (λ i. n (inr i)))

pub once_only : (es : List (LabelFields × Tree)) → Distinct es → twice es ≡ false
once_only [] d = refl
once_only (e ∷ es) d = or_false (stands e.0 es) (twice es) (stands_not e.0 es d.0) (once_only es d.1)

in_later : (l : LabelFields) (xs ys : List (LabelFields × Tree)) → (x : LabelFields × Tree) → l ≡ x.0 → IsIn l (xs ++ x ∷ ys)
in_later l [] ys x e = inl e
in_later l (z ∷ zs) ys x e = inr (in_later l zs ys x e)

twice_at : (xs ys : List (LabelFields × Tree)) (x : LabelFields × Tree) → IsIn x.0 xs → twice (xs ++ x ∷ ys) ≡ true
twice_at [] ys x i = absurd i
twice_at (z ∷ zs) ys x (inl q) = ap (λ b. b || twice (zs ++ x ∷ ys)) (stands_in z.0 (zs ++ x ∷ ys) (in_later z.0 zs ys x (sym q)))
twice_at (z ∷ zs) ys x (inr i) = ap (λ b. stands z.0 (zs ++ x ∷ ys) || b) (twice_at zs ys x i) ∙ or_true (stands z.0 (zs ++ x ∷ ys))

-- the entries at a place of a list
pub split_at : {A : Type 0} (xs : List A) (i : ℕ) (d : A) → i < length xs → (ys : List A) × (xs ≡ take i xs ++ get_or xs i d ∷ ys)
split_at [] i d h = absurd (omega (arith, h))
split_at (x ∷ xs) zero d h = (xs, refl)
split_at (x ∷ xs) (suc i) d h = let w = split_at xs i d (omega (arith, h)) in (w.0, ap (λ z. x ∷ z) w.1)

pub twice_there : (xs : List (Label × Value)) (i : ℕ) (d : Label × Value) → i < length xs → IsIn (label_view (get_or xs i d).0) (map entry_view (take i xs)) → twice (map entry_view xs) ≡ true
twice_there xs i d h n =
    let w = split_at xs i d h in
    ap (λ z. twice (map entry_view z)) w.1 ∙ ap twice (map-append entry_view (take i xs) (get_or xs i d ∷ w.0)) ∙ twice_at (map entry_view (take i xs)) (map entry_view w.0) (entry_view (get_or xs i d)) n

-- ---- counter signatures
pub signature_list : (ss : List SignatureFields) → signature_trees (signatures ss) ≡ option_map trees (all_written signature_tree ss)
signature_list [] = refl
signature_list (s ∷ ss) = go (signature_tree s) (signature_trees (signatures ss)) (all_written signature_tree ss) (signature_list ss) where
  go : (o : Option Tree) (p : Option Trees) (q : Option (List Tree)) → p ≡ option_map trees q
      → option_and_then (λ t. option_map (λ ts. one_more t ts) p) o ≡ option_map trees (option_and_then (λ t. option_map (λ ts. t ∷ ts) q) o)
  go None p q e = refl
  go (Some t) p None e = ap (option_map (λ ts. one_more t ts)) e
  go (Some t) p (Some ts) e = ap (option_map (λ ts. one_more t ts)) e

pub signatures_done : (all : List CoseSignature) (vs : List Value) → all_written signature_tree (map signature_view all) ≡ Some (map view vs) → signature_trees (signatures_view all) ≡ Some (views vs)
signatures_done all vs e = signature_list (map signature_view all) ∙ ap (option_map trees) e

pub written_more : (all : List CoseSignature) (i : ℕ) (d : CoseSignature) (vs ws : List Value) (v : Value) → i < length all → ws ≡ vs ++ v ∷ []
    → all_written signature_tree (map signature_view (take i all)) ≡ Some (map view vs) → signature_tree (signature_view (get_or all i d)) ≡ Some (view v)
    → all_written signature_tree (map signature_view (take (i + 1) all)) ≡ Some (map view ws)
written_more all i d vs ws v h q e s =
    ap (λ z. all_written signature_tree (map signature_view z)) (take_more all i d h)
    ∙ written_pushed signature_tree signature_view (take i all) (get_or all i d) vs ws v q e s

pub signatures_fault : (all xs ys : List CoseSignature) (x : CoseSignature) (e : CoseError) → all ≡ xs ++ x ∷ ys → CantWrite (signature_tree (signature_view x)) e → CantWrite (signature_trees (signatures_view all)) e
signatures_fault all xs ys x e q (inl m) = inl m
signatures_fault all xs ys x e q (inr (d, n)) =
    inr (
      d,
      signature_list (map signature_view all)
          ∙ ap (option_map trees) (ap (all_written signature_tree) (ap (map signature_view) q ∙ map-append signature_view xs (x ∷ ys)) ∙ written_none signature_tree (map signature_view xs) (map signature_view ys) (signature_view x) n),
    )

-- ---- the steps of the test for repeats
taken : (xs : List (Label × Value)) (i : ℕ) (d : Label × Value) → i < length xs → map entry_view (take (i + 1) xs) ≡ map entry_view (take i xs) ++ (label_view (get_or xs i d).0, view (get_or xs i d).1) ∷ []
taken xs i d h = ap (map entry_view) (take_more xs i d h) ∙ map-append entry_view (take i xs) (get_or xs i d ∷ [])

pub sees_next : (s : SeenLabels Label) (xs : List (Label × Value)) (i : ℕ) (d : Label × Value) → i < length xs
    → ((v : Tree) → SeesLabels s (map entry_view (take i xs) ++ (label_view (get_or xs i d).0, v) ∷ [])) → SeesLabels s (map entry_view (take (i + 1) xs))
sees_next s xs i d h w = subst (SeesLabels s) (sym (taken xs i d h)) (w (view (get_or xs i d).1))

pub distinct_next : (xs : List (Label × Value)) (i : ℕ) (d : Label × Value) → i < length xs → Distinct (map entry_view (take i xs)) → (IsIn (label_view (get_or xs i d).0) (map entry_view (take i xs)) → ⊥)
    → Distinct (map entry_view (take (i + 1) xs))
distinct_next xs i d h a n = subst Distinct (sym (taken xs i d h)) (distinct_snoc (map entry_view (take i xs)) (label_view (get_or xs i d).0) (view (get_or xs i d).1) a n)

-- ---- no counter signature
pub unsigned_by : (xs : List CoseSignature) → (length xs == 0) ≡ is_unsigned (signatures_view xs)
unsigned_by [] = refl
unsigned_by (x ∷ xs) = not_true (length (x ∷ xs) == 0) (λ h. let e : length (x ∷ xs) ≡ 0 = eqb-true (length (x ∷ xs)) 0 h in absurd (omega (arith, e)))
