-- A registry of IANA: a list of entries and their numbers.
use Rattle.std.specs.Prelude.{◌≡◌, ℕ, suc, ◌&&◌, ◌==◌, ℤ, pos, neg_ℤ, Bool, true, false, List, [], ◌∷◌, length, map, get_or, Option, Some, MatchOption, option_map, int_lt}
use Rattle.std.specs.List.{list_any, find}
use Rattle.std.specs.Ordering.{int_eq}
use denote.Enum.Declared.{Declared, variants, tag_of}

abbrev pub neg : ℕ → ℤ
neg n = neg_ℤ (pos n)

-- whether an entry has this number
abbrev pub has_number : {E : Type 0} → List (E × ℤ) → ℤ → Bool
has_number rows i = list_any (λ row. int_eq row.1 i) rows

-- the entry with this number
unfoldable pub entry_of : {E : Type 0} → List (E × ℤ) → ℤ → Option E
entry_of rows i = option_map (λ row. row.0) (find (λ row. int_eq row.1 i) rows)

-- the number in the row at place k
abbrev pub number_at : {E : Type 0} → List (E × ℤ) → ℕ → ℤ
number_at rows k = get_or (map (λ row. row.1) rows) k (pos 0)

-- the numbers rise, from above z
abbrev pub rise_above : {E : Type 0} → ℤ → List (E × ℤ) → Bool
rise_above z [] = true
rise_above z (row ∷ rows) = int_lt z row.1 && rise_above row.1 rows

abbrev pub rise : {E : Type 0} → List (E × ℤ) → Bool
rise [] = true
rise (row ∷ rows) = rise_above row.1 rows

-- the entries are those of the enum in their order, from that at place k on to the last
abbrev pub are_entries : (D : Declared) → ℕ → List (D.D × ℤ) → Bool
are_entries D k [] = k == length (variants D)
are_entries D k (row ∷ rows) = (tag_of D row.0 == k) && are_entries D (suc k) rows

-- what a registry says of its entries: each has a number, and each number that is registered is
-- that of one entry
pub record Registry (E : Type 0) : Type 0 where
  pub number : E → ℤ
  pub is_registered : ℤ → Bool
  pub entry : ℤ → Option E
  pub there_and_back : (x : E) → entry (number x) ≡ Some x
  pub back_and_there : (i : ℤ) → MatchOption (entry i) (is_registered i ≡ false) (λ x. (number x ≡ i) × (is_registered i ≡ true))

-- numbers below -65536 are for private use (RFC 9052, section 11, which keeps these registries; RFC
-- 8392, section 9.1)
abbrev pub is_private_use : ℤ → Bool
is_private_use i = int_lt i (neg 65536)
