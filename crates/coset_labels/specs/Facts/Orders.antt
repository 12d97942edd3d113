-- The orders of labels and names are total, and those of all their values tie equal ones alone.
use Rattle.std.specs.Prelude.{◌≡◌, ◌↔◌, IsTrue, length}
use Rattle.std.proofs.Common.{ap, ◌∙◌}
use Rattle.std.proofs.lemmas.Cmp.{tied_itself}
use Rattle.std.specs.Cmp.{IsTotalOrder, on_total, then_total, bool_cmp_total, nat_cmp_total}
use Rattle.std.specs.Ordering.{bool_cmp, is_eq}
use Rattle.std.specs.declared.cmp.Ordering.{Ordering}
use Rattle.std.specs.declared.cmp.Ordering.TheVariants.{Equal}
use Rattle.ciborium_value.specs.Tree.{integer, text}
use Rattle.ciborium_value.specs.Canonical.{text_cmp}
use Rattle.ciborium_value.specs.Encoding.{enc}
use Rattle.ciborium_value.specs.Facts.Orders.{equal_of, then_tied}
use Rattle.ciborium_value.specs.Facts.TextTotal.{bytewise_total, text_total, text_tied}
use Rattle.coset_labels.specs.Fields.{LabelFields, number, words, Named, private_use, assigned, named}
use Rattle.coset_labels.specs.Labels.{label_tree, named_tree}
use Rattle.coset_labels.specs.Orders.{label_cmp, label_length_first, is_own_number, named_cmp}

pub label_total : IsTotalOrder label_cmp
label_total = on_total label_tree text_total

pub length_first_total : IsTotalOrder label_length_first
length_first_total = on_total label_tree (then_total (on_total (λ t. length (enc t)) nat_cmp_total) bytewise_total)

pub named_total : IsTotalOrder named_cmp
named_total = then_total (on_total named_tree text_total) (on_total is_own_number bool_cmp_total)

label_same : (l m : LabelFields) → label_tree l ≡ label_tree m → l ≡ m
label_same (number i) (number j) e = let h : integer i ≡ integer j = e in cc
label_same (number i) (words b) e = let h : integer i ≡ text b = e in cc
label_same (words b) (number i) e = let h : text b ≡ integer i = e in cc
label_same (words a) (words b) e = let h : text a ≡ text b = e in cc

pub label_tied : (l m : LabelFields) → label_cmp l m ≡ Equal → l ≡ m
label_tied l m e = label_same l m (text_tied (label_tree l) (label_tree m) e)

named_same : (n m : Named) → named_tree n ≡ named_tree m → bool_cmp (is_own_number n) (is_own_number m) ≡ Equal → n ≡ m
named_same (private_use i) (private_use j) e f = let h : integer i ≡ integer j = e in cc
named_same (private_use i) (assigned j) e f = cc
named_same (private_use i) (named b) e f = let h : integer i ≡ text b = e in cc
named_same (assigned i) (private_use j) e f = cc
named_same (assigned i) (assigned j) e f = let h : integer i ≡ integer j = e in cc
named_same (assigned i) (named b) e f = let h : integer i ≡ text b = e in cc
named_same (named a) (private_use j) e f = let h : text a ≡ integer j = e in cc
named_same (named a) (assigned j) e f = let h : text a ≡ integer j = e in cc
named_same (named a) (named b) e f = let h : text a ≡ text b = e in cc

pub named_tied : (n m : Named) → named_cmp n m ≡ Equal → n ≡ m
named_tied n m e =
    let h = then_tied (text_cmp (named_tree n) (named_tree m)) (bool_cmp (is_own_number n) (is_own_number m)) e in
    named_same n m (text_tied (named_tree n) (named_tree m) h.0) h.1

-- equality by the order is equality
same_by : {A : Type 0} (R : A → A → Ordering) → IsTotalOrder R → ((x y : A) → R x y ≡ Equal → x ≡ y)
    → (x y : A) → IsTrue (is_eq (R x y)) ↔ (x ≡ y)
same_by R total tied x y = (
  λ h. tied x y (equal_of (R x y) h),
  λ h. ap (λ z. is_eq (R z y)) h ∙ ap is_eq (tied_itself total y),
)

pub labels_same : (l m : LabelFields) → IsTrue (is_eq (label_cmp l m)) ↔ (l ≡ m)
labels_same = same_by label_cmp label_total label_tied

pub names_same : (n m : Named) → IsTrue (is_eq (named_cmp n m)) ↔ (n ≡ m)
names_same = same_by named_cmp named_total named_tied
