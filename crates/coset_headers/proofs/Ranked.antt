-- The entries of a header by their places: gathered place by place they are in order, and entries
-- in order are as they are gathered.
use Rattle.std.proofs.Common.{◌≡◌, ℕ, zero, suc, ◌+◌, ◌<◌, ◌≤◌, pos, negsuc, ◌⊎◌, inl, inr, List, [], ◌∷◌, ◌++◌, Bool, true, false, cond, nat_eq, nat_lt, Option, Some, None, refl, sym, ap, subst, ◌∙◌, arith}
use Rattle.std.specs.Prelude.{◌&&◌}
use Rattle.std.proofs.lemmas.Bool.Decides.{nat_tests}
use borrow.Author.Tests.{ltb-true, eqb-true}
use Rattle.ciborium_value.specs.Tree.{Tree}
use Rattle.coset_labels.specs.Fields.{LabelFields, number, words}
use Rattle.coset_labels.specs.Labels.{label_tree}
use Rattle.coset_headers.specs.AsWritten.{place_of}
use Rattle.coset_headers.specs.Headers.{is_at, is_core, at, Distinct, others}
use Rattle.coset_headers.specs.Written.{entry_of}
use Rattle.coset_headers.proofs.Entered.{is_at_is, bool_cases, at_none, less, unlike, alike, core_range, core_at, gather}
use Rattle.coset_headers.proofs.Wrote.{NoneCore, others_none, others_all}

-- ---- the place of a label
abbrev pub rank : LabelFields → ℕ
rank l = place_of (label_tree l)

rank_of : (n : ℕ) → 0 < n → n < 8 → rank (number (pos n)) ≡ n
rank_of n a b = ap (λ z. cond (z && nat_lt n 8) n 8) (less 0 n a) ∙ ap (λ z. cond z n 8) (less n 8 b)

-- a label has a field of its own, and its number is its place; or it has none
abbrev IsRanked : LabelFields → Type 0
IsRanked l = ((n : ℕ) × (l ≡ number (pos n)) × (0 < n) × (n < 8)) ⊎ ((is_core l ≡ false) × (rank l ≡ 8))

number_ranked : (n : ℕ) (a b : Bool) → nat_lt 0 n ≡ a → nat_lt n 8 ≡ b → IsRanked (number (pos n))
number_ranked n true true x y = inl (n, refl, ltb-true 0 n x, ltb-true n 8 y)
number_ranked n false b x y = inr (core_range n ∙ ap (λ z. z && nat_lt n 8) x, ap (λ z. cond (z && nat_lt n 8) n 8) x)
number_ranked n true false x y =
    inr (core_range n ∙ ap (λ z. z && nat_lt n 8) x ∙ y, ap (λ z. cond (z && nat_lt n 8) n 8) x ∙ ap (λ z. cond z n 8) y)

ranked : (l : LabelFields) → IsRanked l
ranked (number (pos n)) = number_ranked n (nat_lt 0 n) (nat_lt n 8) refl refl
ranked (number (negsuc n)) = inr (refl, refl)
ranked (words b) = inr (refl, refl)

core_rank : (l : LabelFields) → is_core l ≡ false → rank l ≡ 8
core_rank l c = go (ranked l)
  where
    go : IsRanked l → rank l ≡ 8
    go (inl (n, q, a, b)) = let e : true ≡ false = sym (core_at n a b) ∙ ap is_core (sym q) ∙ c in cc
    go (inr (_, e)) = e

none_core : (l : LabelFields) → 8 ≤ rank l → is_core l ≡ false
none_core l h = go (ranked l)
  where
    go : IsRanked l → is_core l ≡ false
    go (inl (n, q, a, b)) = let e : rank l ≡ n = ap rank q ∙ rank_of n a b in absurd (omega (arith, e, b, h))
    go (inr (c, _)) = c

pub at_rank : (n : ℕ) (l : LabelFields) → is_at n l ≡ true → 0 < n → n < 8 → rank l ≡ n
at_rank n l e a b = ap rank (is_at_is n l e) ∙ rank_of n a b

pub rank_at : (n : ℕ) (l : LabelFields) → rank l ≡ n → n < 8 → is_at n l ≡ true
rank_at n l e h = go (ranked l)
  where
    go : IsRanked l → is_at n l ≡ true
    go (inl (m, q, a, b)) = let f : rank l ≡ m = ap rank q ∙ rank_of m a b in ap (is_at n) q ∙ alike n m (sym e ∙ f)
    go (inr (_, f)) = absurd (omega (arith, e, f, h))

-- ---- entries in order
abbrev pub Sorted : ℕ → List (LabelFields × Tree) → Type 0
Sorted r [] = Unit {0}
Sorted r (e ∷ es) = (r ≤ rank e.0) × Sorted (rank e.0) es

weaken : (r q : ℕ) (es : List (LabelFields × Tree)) → r ≤ q → Sorted q es → Sorted r es
weaken r q [] h s = tt
weaken r q (e ∷ es) h s = let g = s.0 in (omega (arith, h, g), s.1)

-- ---- what is gathered is in order
none_sorted : (r : ℕ) (es : List (LabelFields × Tree)) → r ≤ 8 → NoneCore es → Sorted r es
none_sorted r [] h g = tt
none_sorted r (e ∷ es) h g =
    let f : rank e.0 ≡ 8 = core_rank e.0 g.0 in
    (omega (arith, h, f), none_sorted (rank e.0) es (omega (arith, f)) g.1)

entry_sorted : (n r : ℕ) (o : Option Tree) (ys : List (LabelFields × Tree)) → 0 < n → n < 8 → r ≤ n → Sorted n ys → Sorted r (entry_of n o ++ ys)
entry_sorted n r None ys a b h s = weaken r n ys h s
entry_sorted n r (Some v) ys a b h s =
    let f : rank (number (pos n)) ≡ n = rank_of n a b in
    (omega (arith, h, f), subst (λ z. Sorted z ys) (sym f) s)

pub gather_sorted : (f n r : ℕ) (es : List (LabelFields × Tree)) → n + f ≡ 8 → 0 < n → r ≤ n → Sorted r (gather f n es)
gather_sorted zero n r es e a h = none_sorted r (others es) (omega (arith, e, h)) (others_none es)
gather_sorted (suc f) n r es e a h =
    entry_sorted n r (at n es) (gather f (suc n) es) a (omega (arith, e)) h
    (gather_sorted f (suc n) n es (omega (arith, e)) (omega arith) (omega arith))

-- ---- entries in order are as they are gathered
sorted_none : (r : ℕ) (es : List (LabelFields × Tree)) → 8 ≤ r → Sorted r es → NoneCore es
sorted_none r [] h s = tt
sorted_none r (e ∷ es) h s =
    let g = s.0 in
    let k : 8 ≤ rank e.0 = omega (arith, g, h) in
    (none_core e.0 k, sorted_none (rank e.0) es k s.1)

none_step : (n : ℕ) (e : LabelFields × Tree) (es : List (LabelFields × Tree)) → 0 < n → n < 8 → n < rank e.0 → at n es ≡ None → (is_at n e.0 ≡ true) ⊎ (is_at n e.0 ≡ false) → at n (e ∷ es) ≡ None
none_step n e es a b k h (inl t) = let q : rank e.0 ≡ n = at_rank n e.0 t a b in absurd (omega (arith, k, q))
none_step n e es a b k h (inr f) = ap (λ z. cond z (Some e.1) (at n es)) f ∙ h

none_before : (n r : ℕ) (es : List (LabelFields × Tree)) → 0 < n → n < 8 → n < r → Sorted r es → at n es ≡ None
none_before n r [] a b h s = refl
none_before n r (e ∷ es) a b h s =
    let g = s.0 in
    let k : n < rank e.0 = omega (arith, g, h) in
    none_step n e es a b k (none_before n (rank e.0) es a b k s.1) (bool_cases (is_at n e.0))

above : (n r : ℕ) → n ≤ r → nat_eq r n ≡ false → suc n ≤ r
above n r h e = grind (arith, nat_tests)

bump : (n : ℕ) (es : List (LabelFields × Tree)) → n < 8 → Sorted n es → at n es ≡ None → Sorted (suc n) es
bump n [] b s q = tt
bump n (e ∷ es) b s q = (go (bool_cases (nat_eq (rank e.0) n)), s.1)
  where
    go : (nat_eq (rank e.0) n ≡ true) ⊎ (nat_eq (rank e.0) n ≡ false) → suc n ≤ rank e.0
    go (inl t) =
        let f : is_at n e.0 ≡ true = rank_at n e.0 (eqb-true (rank e.0) n t) b in
        let k : Some e.1 ≡ None = sym (ap (λ z. cond z (Some e.1) (at n es)) f) ∙ q in
        absurd (let g : ⊥ = cc in g)
    go (inr f) = above n (rank e.0) s.0 f

gather_drop : (f n k : ℕ) (e : LabelFields × Tree) (es : List (LabelFields × Tree)) → e.0 ≡ number (pos k) → 0 < k → k < 8 → k < n → gather f n (e ∷ es) ≡ gather f n es
gather_drop zero n k e es q a b h = ap (λ z. cond z (others es) (e ∷ others es)) (ap is_core q ∙ core_at k a b)
gather_drop (suc f) n k e es q a b h =
    λ i. entry_of n (ap (λ z. cond z (Some e.1) (at n es)) (ap (is_at n) q ∙ unlike n k (λ x. omega (arith, h, x))) i) ++ gather_drop f (suc n) k e es q a b (omega (arith, h)) i

head_is : (n : ℕ) (e : LabelFields × Tree) (es : List (LabelFields × Tree)) → is_at n e.0 ≡ true → at n (e ∷ es) ≡ Some e.1
head_is n e es t = ap (λ z. cond z (Some e.1) (at n es)) t

-- the first entry is at the place n, or after it
gathered_step : (f n : ℕ) (x : LabelFields × Tree) (xs : List (LabelFields × Tree)) → n + suc f ≡ 8 → 0 < n → Sorted n (x ∷ xs) → Distinct (x ∷ xs)
    → ((zs : List (LabelFields × Tree)) → Sorted (suc n) zs → Distinct zs → gather f (suc n) zs ≡ zs) → (nat_eq (rank x.0) n ≡ true) ⊎ (nat_eq (rank x.0) n ≡ false) → gather (suc f) n (x ∷ xs) ≡ x ∷ xs
gathered_step f n x xs e a s d k (inl t) =
    let b : n < 8 = omega (arith, e) in
    let r : rank x.0 ≡ n = eqb-true (rank x.0) n t in
    let here : is_at n x.0 ≡ true = rank_at n x.0 r b in
    let q : x.0 ≡ number (pos n) = is_at_is n x.0 here in
    let none : at n xs ≡ None = at_none n xs x.0 here d.0 in
    let rest : Sorted (suc n) xs = bump n xs b (subst (λ z. Sorted z xs) r s.1) none in
    (λ i. entry_of n (head_is n x xs here i) ++ (gather_drop f (suc n) n x xs q a b (omega arith) ∙ k xs rest d.1) i)
    ∙ ap (λ z. (z, x.1) ∷ xs) (sym q)
gathered_step f n x xs e a s d k (inr u) =
    let b : n < 8 = omega (arith, e) in
    let g : suc n ≤ rank x.0 = above n (rank x.0) s.0 u in
    let none : at n (x ∷ xs) ≡ None = none_before n (suc n) (x ∷ xs) a b (omega arith) (g, s.1) in
    ap (λ z. entry_of n z ++ gather f (suc n) (x ∷ xs)) none ∙ k (x ∷ xs) (g, s.1) d

pub sorted_gathered : (f n : ℕ) (es : List (LabelFields × Tree)) → n + f ≡ 8 → 0 < n → Sorted n es → Distinct es → gather f n es ≡ es
sorted_gathered zero n es e a s d = others_all es (sorted_none n es (omega (arith, e)) s)
sorted_gathered (suc f) n [] e a s d = sorted_gathered f (suc n) [] (omega (arith, e)) (omega arith) tt tt
sorted_gathered (suc f) n (x ∷ xs) e a s d =
    gathered_step f n x xs e a s d (λ zs g h. sorted_gathered f (suc n) zs (omega (arith, e)) (omega arith) g h) (bool_cases (nat_eq (rank x.0) n))
