-- The orders of labels and names are those of encodings.
use Rattle.std.proofs.Common.{◌≡◌, ℕ, ◌^◌, ◌≤◌, ◌<◌, pos, negsuc, List, [], ◌∷◌, length, ℤ, Bool, true, false, cond, nat_lt, Some, refl, sym, ap, ◌∙◌, arith, w16, w32, w64}
use Rattle.std.specs.Int.{to_be_bytes}
use Rattle.ciborium_ll.specs.Title.{shortest, first_byte, title_of}
use Rattle.ciborium_ll.specs.declared.hdr.Header.TheVariants.{Text}
use Rattle.std.specs.Ordering.{ordering_then, nat_cmp, bool_cmp}
use Rattle.ciborium_value.specs.Canonical.{bytewise, text_cmp}
use Rattle.ciborium_value.specs.Tree.{Tree, integer}
use Rattle.ciborium_value.specs.Facts.Heads.{int_place, int_number, number, heads_cmp, Sized}
use Rattle.ciborium_value.specs.Facts.Orders.{then_equal}
use Rattle.ciborium_value.proofs.TextOrder.{heads_order, text_order}
use Rattle.coset_labels.specs.Fields.{Named}
use Rattle.coset_labels.specs.Labels.{named_tree}
use Rattle.coset_labels.specs.Orders.{is_own_number, named_cmp}
use Rattle.coset_labels.specs.View.{registered_view}
use Rattle.coset_labels.specs.declared.registered.RegisteredLabel.{RegisteredLabel}
use Rattle.coset_labels.specs.declared.registered.RegisteredLabel.TheVariants as registered

-- the order by heads and contents, as the code finds it
pub heads_text : (t s : Tree) → Sized t → Sized s → heads_cmp t s ≡ text_cmp t s
heads_text t s f g = sym (heads_order t s f g) ∙ text_order t s f g

pub int_sized : (i : ℤ) (n : ℕ) → n ≡ number (integer i) → n < 2 ^ 64 → Sized (integer i)
int_sized (pos m) n e l = omega (arith, e, l)
int_sized (negsuc m) n e l = omega (arith, e, l)

pub integers_by_heads : (i j : ℤ) (a b n m : ℕ) → a ≡ int_place i → b ≡ int_place j → n ≡ int_number i → m ≡ int_number j → n < 2 ^ 64 → m < 2 ^ 64
    → ordering_then (nat_cmp a b) (nat_cmp n m) ≡ text_cmp (integer i) (integer j)
integers_by_heads i j a b n m e f g h k l =
    (λ z. ordering_then (nat_cmp (e z) (f z)) (nat_cmp (g z) (h z))) ∙ heads_text (integer i) (integer j) (int_sized i n g k) (int_sized j m h l)

none_own : {T : Type 0} (number_of : T → ℤ) (l : RegisteredLabel T) → is_own_number (registered_view number_of l) ≡ false
none_own number_of (registered.Assigned x) = refl
none_own number_of (registered.Text s) = refl

pub names_by : (n m : Named) → bytewise (named_tree n) (named_tree m) ≡ text_cmp (named_tree n) (named_tree m)
    → named_cmp n m ≡ ordering_then (bytewise (named_tree n) (named_tree m)) (bool_cmp (is_own_number n) (is_own_number m))
names_by n m e = ap (λ z. ordering_then z (bool_cmp (is_own_number n) (is_own_number m))) (sym e)

pub registered_by : {T : Type 0} (number_of : T → ℤ) (a b : RegisteredLabel T)
    → bytewise (named_tree (registered_view number_of a)) (named_tree (registered_view number_of b)) ≡ text_cmp (named_tree (registered_view number_of a)) (named_tree (registered_view number_of b))
    → named_cmp (registered_view number_of a) (registered_view number_of b) ≡ bytewise (named_tree (registered_view number_of a)) (named_tree (registered_view number_of b))
registered_by number_of a b e =
    (λ i. ordering_then (text_cmp (named_tree (registered_view number_of a)) (named_tree (registered_view number_of b))) (bool_cmp (none_own number_of a i) (none_own number_of b i)))
    ∙ then_equal (text_cmp (named_tree (registered_view number_of a)) (named_tree (registered_view number_of b))) ∙ sym e

-- the head of a text is at most nine bytes long
shortest_short : (n : ℕ) → length (shortest 3 n) ≤ 9
unfolding shortest
shortest_short n = go (nat_lt n 24) (nat_lt n (2 ^ 8)) (nat_lt n (2 ^ 16)) (nat_lt n (2 ^ 32))
  where
    go : (a b c d : Bool)
        → length (cond a (first_byte 3 n ∷ []) (cond b (first_byte 3 24 ∷ n ∷ []) (cond c (first_byte 3 25 ∷ to_be_bytes w16 n) (cond d (first_byte 3 26 ∷ to_be_bytes w32 n) (first_byte 3 27 ∷ to_be_bytes w64 n))))) ≤ 9
    go true b c d = omega arith
    go false true c d = omega arith
    go false false true d = omega arith
    go false false false true = omega arith
    go false false false false = omega arith

pub title_short : (b : List ℕ) → length (title_of (Text (Some (length b)))) ≤ 9
title_short b = shortest_short (length b)
