-- A search by halves in a list whose numbers rise.
use Rattle.std.proofs.Common.{◌≡◌, ◌∙◌, ap, sym, refl, ℕ, ◌+◌, ◌<◌, ◌≤◌, ◌<ℤ◌, ℤ, pos, true, List, length, get_or, Option, Some, None, inl, inr, arith}
use Rattle.std.proofs.lemmas.Bool.{cases_lt}
use Rattle.std.proofs.lemmas.Int.{ints}
use Rattle.std.proofs.lemmas.List.{get_or-map}
use Rattle.cose_iana.specs.Registry.{entry_of, number_at, rise}
use Rattle.cose_iana.specs.Facts.{Found, entry_at, at_least}

-- the number isn't that of a row before `low`, nor of one from `high` on
pub record Between {E : Type 0} (rows : List (E × ℤ)) (i : ℤ) (low high : ℕ) : Type 0 where
  pub ends : low ≤ high
  pub within : high ≤ length rows
  pub below : (k : ℕ) → k < low → number_at rows k <ℤ i
  pub above : (k : ℕ) → high ≤ k → k < length rows → i <ℤ number_at rows k

module _ {E : Type 0} (rows : List (E × ℤ)) (i : ℤ) (low high m : ℕ) (r : rise rows ≡ true) (w : Between rows i low high) (l : low ≤ m) (h : m < high) (row : E × ℤ) (is : row ≡ get_or rows m row) where
  number_is : number_at rows m ≡ row.1
  number_is = get_or-map (λ x. x.1) rows m row (pos 0) (omega (arith, w.within)) ∙ ap (λ x. x.1) (sym is)

  pub upper : row.1 <ℤ i → Between rows i (m + 1) high
  upper b = record {
    ends = omega arith;
    within = w.within;
    below = λ k s. omega (arith, ints, number_is, at_least rows k m r (omega arith) (omega (arith, w.within)));
    above = w.above;
  }

  pub lower : i <ℤ row.1 → Between rows i low m
  lower a = record {
    ends = l;
    within = omega (arith, w.within);
    below = w.below;
    above = λ k s t. omega (arith, ints, number_is, at_least rows m k r s t);
  }

  pub here : row.1 ≡ i → Some row.0 ≡ entry_of rows i
  here e = ap (λ x. Some x.0) is ∙ sym (entry_at rows m row r (omega (arith, w.within))) ∙ ap (entry_of rows) (number_is ∙ e)

pub nowhere : {E : Type 0} (rows : List (E × ℤ)) (i : ℤ) (low high : ℕ) → Between rows i low high → high ≤ low → (o : Option E) → Found rows i o → None ≡ o
nowhere rows i low high w h None f = refl
nowhere rows i low high w h (Some x) f = absurd (elim (cases_lt f.0 low) [
  | inl b ↦ omega (arith, ints, f.3, w.below f.0 b)
  | inr a ↦ omega (arith, ints, f.3, w.above f.0 (omega arith) f.1)
])
