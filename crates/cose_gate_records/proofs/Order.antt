-- How lists of bytes are ordered, piece by piece, and what a search by halves finds among them.
use Rattle.std.proofs.Common.{◌≡◌, ℕ, ◌<◌, ◌≤◌, List, [], ◌∷◌, ◌++◌, length, true, false, Result, Ok, Err, Ordering, Less, Equal, Greater, nat_cmp, is_eq, Bor, get_or, refl, sym, ap, ◌∙◌, ⊎_elim, arith, append-nil}
use Rattle.std.specs.Ordering.{is_ne, ordering_then}
use Rattle.std.specs.Result.{is_ok}
use Rattle.std.specs.List.{list_any}
use Rattle.std.specs.List.Sorted.{IsPermutation, IsSorted, IsSearchInRange, IsBinarySearchResult}
use mathlib.Core.Bool.{Bool-set}
use Rattle.std.specs.Str.{bytes_eq}
use Rattle.std.specs.Cmp.Lexicographic.{lists_ties}
use Rattle.std.proofs.lemmas.Bool.{cases_lt}
use Rattle.std.proofs.lemmas.Bool.Decides.{nat_tests}
use Rattle.std.proofs.lemmas.Cmp.{nat_list_cmp_total}
use Rattle.std.proofs.lemmas.List.Folds.{list_any_at, list_any_none}
use Rattle.std.proofs.lemmas.List.Sorted.{searchable_from_sorted, list_any-IsPermutation}
use Rattle.std.proofs.Math.Logic.{∥∥₁_elim}
use Rattle.cose_gate_records.specs.Framing.{framed, key_by}
use Rattle.cose_gate_records.specs.Order.{bytes_cmp}

then_assoc : (a b c : Ordering) → ordering_then a (ordering_then b c) ≡ ordering_then (ordering_then a b) c
then_assoc Less b c = refl
then_assoc Equal b c = refl
then_assoc Greater b c = refl

-- an order that is decided stays; one that is not is decided by what follows
decided : (o x : Ordering) → is_ne o ≡ true → ordering_then o x ≡ o
decided Less x h = refl
decided Equal x h = grind (arith, h)
decided Greater x h = refl

tied : (o x : Ordering) → is_ne o ≡ false → ordering_then o x ≡ x
tied Less x h = grind (arith, h)
tied Equal x h = refl
tied Greater x h = grind (arith, h)

-- a text against one that begins with a piece: their heads, as long as the piece if the text is,
-- and then what is after
pub by_heads : (head rest front more : List ℕ) → length head ≤ length front → (0 < length rest → length head ≡ length front)
    → bytes_cmp (head ++ rest) (front ++ more) ≡ ordering_then (bytes_cmp head front) (bytes_cmp rest more)
by_heads [] rest [] more l h = refl
by_heads [] [] (y ∷ ys) more l h = refl
by_heads [] (r ∷ rs) (y ∷ ys) more l h = absurd (omega (arith, h (omega arith)))
by_heads (x ∷ xs) rest [] more l h = absurd (omega (arith, l))
by_heads (x ∷ xs) rest (y ∷ ys) more l h =
    ap (ordering_then (nat_cmp x y)) (by_heads xs rest ys more (omega (arith, l)) (λ some. omega (arith, h some)))
    ∙ then_assoc (nat_cmp x y) (bytes_cmp xs ys) (bytes_cmp rest more)

-- what the order of a text's head to this front, and what is left of the text, say of the text
-- against any that begins with the front
abbrev pub TellsOf : List ℕ → Ordering → List ℕ → List ℕ → Type 0
TellsOf text o rest front = (more : List ℕ) → bytes_cmp text (front ++ more) ≡ ordering_then o (bytes_cmp rest more)

behind_front : (key rest front covered signature : List ℕ) (o : Ordering) → is_ne o ≡ false → TellsOf key o rest front
    → bytes_cmp key (key_by front covered signature) ≡ bytes_cmp rest (framed covered ++ framed signature)
behind_front key rest front covered signature o eq tells =
    tells (framed covered ++ framed signature) ∙ tied o (bytes_cmp rest (framed covered ++ framed signature)) eq

-- compared with an empty list, the length decides
to_nothing : (text : List ℕ) → bytes_cmp text [] ≡ nat_cmp (length text) 0
to_nothing [] = refl
to_nothing (x ∷ xs) = grind (arith, nat_tests)

pub told_by_signature : (key rest more last front covered signature : List ℕ) (o p q n : Ordering) → is_ne o ≡ false → TellsOf key o rest front
    → is_ne p ≡ false → TellsOf rest p more (framed covered) → TellsOf more q last (framed signature) → n ≡ nat_cmp (length last) 0
    → ordering_then q n ≡ bytes_cmp key (key_by front covered signature)
told_by_signature key rest more last front covered signature o p q n eq tells eq1 then at_last is =
    sym (behind_front key rest front covered signature o eq tells
    ∙ (then (framed signature) ∙ (tied p (bytes_cmp more (framed signature)) eq1
    ∙ (ap (bytes_cmp more) (sym (append-nil (framed signature)))
    ∙ (at_last [] ∙ ap (ordering_then q) (to_nothing last ∙ sym is))))))

-- lists are the same if neither is before the other
same_by_order : (a b : List ℕ) → bytes_eq a b ≡ is_eq (bytes_cmp a b)
same_by_order = lists_ties nat_cmp (λ x y. grind (arith, nat_tests))

-- what a search by halves returns, of places in any order
abbrev pub IsFound : List ℕ → List (Bor (List ℕ)) → Result ℕ ℕ → Type 0
IsFound key places r = IsSearchInRange r (length places) × IsBinarySearchResult (λ p. bytes_cmp p.now key) places r

-- among places in order it tells whether one of them has the key
pub found_by_halves : (places : List (Bor (List ℕ))) (key : List ℕ) (r : Result ℕ ℕ) → IsSorted (λ x y. bytes_cmp x.now y.now) places
    → IsFound key places r → is_ok r ≡ list_any (λ p. bytes_eq p.now key) places
found_by_halves [] key (Ok at) sorted found = absurd (omega (arith, found.0))
found_by_halves (p ∷ ps) key (Ok at) sorted found =
    sym (list_any_at (λ p. bytes_eq p.now key) (p ∷ ps) at p found.0 (same_by_order (get_or (p ∷ ps) at p).now key ∙ ap is_eq (found.1 p)))
found_by_halves places key (Err at) sorted found =
    let parted = found.1 (searchable_from_sorted nat_list_cmp_total (λ p. p.now) places key sorted) in
    sym (list_any_none (λ p. bytes_eq p.now key) places (λ k d lt. same_by_order (get_or places k d).now key ∙ ⊎_elim
    (λ before. ap is_eq (parted.0 k d (omega arith) before))
    (λ behind. ap is_eq (parted.1 k d behind lt))
    (cases_lt k at)))

-- and so of the places as they were received
pub same_among : (received places : List (Bor (List ℕ))) (key : List ℕ) → ∥ IsPermutation received places ∥₁
    → list_any (λ p. bytes_eq p.now key) received ≡ list_any (λ p. bytes_eq p.now key) places
same_among received places key same = ∥∥₁_elim same (Bool-set _ _) (λ moved. list_any-IsPermutation (λ p. bytes_eq p.now key) received places moved)
