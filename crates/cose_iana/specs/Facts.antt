-- What a list of entries and their numbers says.
use Rattle.std.proofs.Common.{◌≡◌, ℕ, zero, suc, ◌+◌, ◌<◌, ◌≤◌, ◌≤ℤ◌, ℤ, pos, Bool, true, false, ◌&&◌, ◌||◌, not, cond, List, [], ◌∷◌, length, get_or, Option, Some, None, option_map, MatchOption, nat_eq, refl, sym, ◌∙◌, ap, subst, inl, inr, arith}
use Rattle.std.specs.List.{find}
use Rattle.std.specs.Prelude.{int_lt}
use Rattle.std.specs.Ordering.{int_eq, int_cmp, is_eq}
use Rattle.std.specs.declared.cmp.Ordering.TheVariants.{Less, Equal, Greater}
use Rattle.std.proofs.lemmas.Bool.{and_parts, cases_Bool, true≢false, eqb-true}
use Rattle.std.proofs.lemmas.Bool.Decides.{Decides-int_eq}
use Rattle.std.proofs.lemmas.Int.{ints}
use denote.Enum.Enum.{tag_below}
use denote.Enum.Declared.{Record, Declared, declared, variants, tag_of}
use denote.Enum.Bare.{Bare, tag_one}
use Rattle.cose_iana.specs.Registry.{has_number, entry_of, number_at, rise_above, rise, are_entries, Registry}

lt_through : (a b c : ℤ) → int_lt a b ≡ true → int_lt b c ≡ true → int_lt a c ≡ true
lt_through a b c h k = grind (arith, ints)

lt_other : (a b : ℤ) → int_lt a b ≡ true → int_eq a b ≡ false
lt_other a b h = ap (λ s. is_eq (cond s Less (cond (int_lt b a) Greater Equal))) h

mapped : {A : Type 0} (o : Option A) {P R : Type 0} {Q S : A → Type 0} → MatchOption o P Q → (P → R) → ((x : A) → Q x → S x) → MatchOption o R S
mapped None m f g = f m
mapped (Some x) m f g = g x m

-- the first row has the number, or a later one
entry_here : {E : Type 0} (row : E × ℤ) (rows : List (E × ℤ)) (i : ℤ) → int_eq row.1 i ≡ true → entry_of (row ∷ rows) i ≡ Some row.0
unfolding entry_of
entry_here row rows i e = ap (λ b. option_map (λ r. r.0) (cond b (Some row) (find (λ r. int_eq r.1 i) rows))) e

entry_later : {E : Type 0} (row : E × ℤ) (rows : List (E × ℤ)) (i : ℤ) → int_eq row.1 i ≡ false → entry_of (row ∷ rows) i ≡ entry_of rows i
unfolding entry_of
entry_later row rows i e = ap (λ b. option_map (λ r. r.0) (cond b (Some row) (find (λ r. int_eq r.1 i) rows))) e

any_if : {E : Type 0} (row : E × ℤ) (rows : List (E × ℤ)) (i : ℤ) (b : Bool) → int_eq row.1 i ≡ b → has_number (row ∷ rows) i ≡ b || has_number rows i
any_if row rows i b e = ap (λ z. z || has_number rows i) e

-- a number that is found stands in a row
abbrev pub Found : {E : Type 0} → List (E × ℤ) → ℤ → Option E → Type 0
Found {E} rows i o = MatchOption o (has_number rows i ≡ false) (λ x. (j : ℕ) × (j < length rows) × ((d : E × ℤ) → (get_or rows j d).0 ≡ x) × (number_at rows j ≡ i) × (has_number rows i ≡ true))

pub found : {E : Type 0} (rows : List (E × ℤ)) (i : ℤ) → Found rows i (entry_of rows i)
unfolding entry_of
found [] i = refl
found (row ∷ rows) i = elim (cases_Bool (int_eq row.1 i)) [
  | inl e ↦ subst (Found (row ∷ rows) i) (sym (entry_here row rows i e)) (0, omega arith, λ d. refl, (Decides-int_eq row.1 i).0 e, any_if row rows i true e)
  | inr e ↦ subst (Found (row ∷ rows) i) (sym (entry_later row rows i e))
      (mapped (entry_of rows i) (found rows i) (λ n. any_if row rows i false e ∙ n) (λ x w. (suc w.0, omega (arith, w.1), w.2, w.3, any_if row rows i false e ∙ w.4)))
]

-- a later number is above
above : {E : Type 0} (z : ℤ) (rows : List (E × ℤ)) (j : ℕ) → rise_above z rows ≡ true → j < length rows → int_lt z (number_at rows j) ≡ true
above z [] j r l = absurd (omega arith)
above z (row ∷ rows) zero r l = (and_parts (int_lt z row.1) (rise_above row.1 rows) r).0
above z (row ∷ rows) (suc j) r l =
    let up = and_parts (int_lt z row.1) (rise_above row.1 rows) r in
    lt_through z row.1 (number_at rows j) up.0 (above row.1 rows j up.1 (omega arith))

rest_rises : {E : Type 0} (z : ℤ) (rows : List (E × ℤ)) → rise_above z rows ≡ true → rise rows ≡ true
rest_rises z [] r = refl
rest_rises z (row ∷ rows) r = (and_parts (int_lt z row.1) (rise_above row.1 rows) r).1

in_order : (a b : ℤ) → int_lt a b ≡ true → a ≤ℤ b
in_order a b h = grind (arith, ints)

pub at_least : {E : Type 0} (rows : List (E × ℤ)) (j k : ℕ) → rise rows ≡ true → j ≤ k → k < length rows → number_at rows j ≤ℤ number_at rows k
at_least [] j k r b l = absurd (omega arith)
at_least (row ∷ rows) zero zero r b l = omega (arith, ints)
at_least (row ∷ rows) zero (suc k) r b l = in_order row.1 (number_at rows k) (above row.1 rows k r (omega arith))
at_least (row ∷ rows) (suc j) zero r b l = absurd (omega arith)
at_least (row ∷ rows) (suc j) (suc k) r b l = at_least rows j k (rest_rises row.1 rows r) (omega arith) (omega arith)

-- so the number of a row is found in that row
pub entry_at : {E : Type 0} (rows : List (E × ℤ)) (j : ℕ) (d : E × ℤ) → rise rows ≡ true → j < length rows → entry_of rows (number_at rows j) ≡ Some (get_or rows j d).0
entry_at [] j d r l = absurd (omega arith)
entry_at (row ∷ rows) zero d r l = entry_here row rows row.1 ((Decides-int_eq row.1 row.1).1 refl)
entry_at (row ∷ rows) (suc j) d r l =
    entry_later row rows (number_at rows j) (lt_other row.1 (number_at rows j) (above row.1 rows j r (omega arith)))
    ∙ entry_at rows j d (rest_rises row.1 rows r) (omega arith)

-- no row has a number below `low`
abbrev pub none_below : {E : Type 0} → ℤ → List (E × ℤ) → Bool
none_below low [] = true
none_below low (row ∷ rows) = not (int_lt row.1 low) && none_below low rows

lt_again : (i j low : ℤ) → int_eq j i ≡ true → int_lt i low ≡ true → not (int_lt j low) ≡ true → false ≡ true
lt_again i j low e h k = sym (ap (λ z. not (int_lt z low)) ((Decides-int_eq j i).0 e) ∙ ap not h) ∙ k

pub not_below : {E : Type 0} (low : ℤ) (rows : List (E × ℤ)) → none_below low rows ≡ true → (i : ℤ) → int_lt i low ≡ true → has_number rows i ≡ false
not_below low [] n i h = refl
not_below low (row ∷ rows) n i h =
    let parts = and_parts (not (int_lt row.1 low)) (none_below low rows) n in
    elim (cases_Bool (int_eq row.1 i)) [
      | inl e ↦ absurd (true≢false (sym (lt_again i row.1 low e h parts.0)))
      | inr e ↦ any_if row rows i false e ∙ not_below low rows parts.1 i h
    ]

-- an enum orders its entries by the numbers that it gives them, as the list has them, and so does
-- the registry
abbrev pub InOrder : (N : Record) → List (N.D × ℤ) → Registry N.D → Type 0
InOrder N rows r = (x y : N.D) → int_cmp (number_at rows (tag_of (declared N) x)) (number_at rows (tag_of (declared N) y)) ≡ int_cmp (r.number x) (r.number y)

-- the entry at place j + k is in row j
place : (D : Declared) (rows : List (D.D × ℤ)) (k j : ℕ) (d : D.D × ℤ) → are_entries D k rows ≡ true → j < length rows → tag_of D (get_or rows j d).0 ≡ j + k
place D [] k j d w l = absurd (omega arith)
place D (row ∷ rows) k zero d w l =
    let e : tag_of D row.0 ≡ k = eqb-true (tag_of D row.0) k (and_parts (nat_eq (tag_of D row.0) k) (are_entries D (suc k) rows) w).0 in
    omega arith
place D (row ∷ rows) k (suc j) d w l =
    let e : tag_of D (get_or rows j d).0 ≡ j + suc k = place D rows (suc k) j d (and_parts (nat_eq (tag_of D row.0) k) (are_entries D (suc k) rows) w).1 (omega arith) in
    omega arith

as_long : (D : Declared) (rows : List (D.D × ℤ)) (k : ℕ) → are_entries D k rows ≡ true → length rows + k ≡ length (variants D)
as_long D [] k w = let e : k ≡ length (variants D) = eqb-true k (length (variants D)) w in omega arith
as_long D (row ∷ rows) k w =
    let e : length rows + suc k ≡ length (variants D) = as_long D rows (suc k) (and_parts (nat_eq (tag_of D row.0) k) (are_entries D (suc k) rows) w).1 in
    omega arith

-- what the whole list of an enum with no fields says
module _ (N : Record) (bare : Bare N.parts) (rows : List (N.D × ℤ)) (whole : are_entries (declared N) 0 rows && rise rows ≡ true) where
  abbrev D : Declared
  D = declared N

  parts : (are_entries D 0 rows ≡ true) × (rise rows ≡ true)
  parts = and_parts (are_entries D 0 rows) (rise rows) whole

  listed : (x : N.D) → tag_of D x < length rows
  listed x =
      let b : tag_of D x < length (variants D) = tag_below (variants D) (D.to x) in
      let n : length rows + 0 ≡ length (variants D) = as_long D rows 0 parts.0 in
      omega arith

  pub there : (x : N.D) → entry_of rows (number_at rows (tag_of D x)) ≡ Some x
  there x =
      let d : N.D × ℤ = (x, pos 0) in
      let p : tag_of D (get_or rows (tag_of D x) d).0 ≡ tag_of D x + 0 = place D rows 0 (tag_of D x) d parts.0 (listed x) in
      entry_at rows (tag_of D x) d parts.1 (listed x) ∙ ap Some (tag_one D bare (get_or rows (tag_of D x) d).0 x (omega arith))

  pub back : (i : ℤ) → MatchOption (entry_of rows i) (has_number rows i ≡ false) (λ x. (number_at rows (tag_of D x) ≡ i) × (has_number rows i ≡ true))
  back i = mapped (entry_of rows i) (found rows i) (λ n. n) (λ x w.
      let d : N.D × ℤ = (x, i) in
      let p : tag_of D (get_or rows w.0 d).0 ≡ w.0 + 0 = place D rows 0 w.0 d parts.0 w.1 in
      let q : tag_of D (get_or rows w.0 d).0 ≡ tag_of D x = ap (tag_of D) (w.2 d) in
      let t : tag_of D x ≡ w.0 = omega arith in
      (ap (number_at rows) t ∙ w.3, w.4))
