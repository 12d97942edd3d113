-- Bytes of which some are blank.
use Rattle.std.specs.Prelude.{◌≡◌, ℕ, ◌<◌, ◌≤◌, ◌⊎◌, ◌+◌, List, length, slice_index, slice_get, Some}
use Rattle.cose_mask.specs.declared.mask.Blank.{Blank}

-- `y` is `x` with `s.with` at each place from `s.at` to before `s.end`
pub record IsFilled (s : Blank) (x y : List ℕ) : Type 0 where
  pub same_length : length y ≡ length x
  pub inside : (k : ℕ) → k < length x → s.at ≤ k → k < s.end → slice_index y k ≡ s.with
  pub outside : (k : ℕ) → (k < s.at) ⊎ (s.end ≤ k) → slice_index y k ≡ slice_index x k

-- `y` is `x` with the first n blanks filled, one after another
pub data IsMaskedBy (blanks : List Blank) : (n : ℕ) → (x y : List ℕ) → Type 0 where
  none : (x : List ℕ) → IsMaskedBy blanks 0 x x
  more : (n : ℕ) (s : Blank) (x y z : List ℕ) → slice_get blanks n ≡ Some s
      → IsMaskedBy blanks n x y → IsFilled s y z → IsMaskedBy blanks (n + 1) x z

abbrev pub IsMasked : List Blank → (x y : List ℕ) → Type 0
IsMasked blanks x y = IsMaskedBy blanks (length blanks) x y

-- a place is in one of the first n blanks
pub record CoveredBy (n : ℕ) (blanks : List Blank) (k : ℕ) : Type 0 where
  pub index : ℕ
  pub blank : Blank
  pub among : index < n
  pub is : slice_get blanks index ≡ Some blank
  pub begun : blank.at ≤ k
  pub goes_on : k < blank.end

abbrev pub Covers : List Blank → ℕ → Type 0
Covers blanks k = CoveredBy (length blanks) blanks k

-- they differ in the blanks alone
pub record SameOutside (blanks : List Blank) (x y : List ℕ) : Type 0 where
  pub same_length : length y ≡ length x
  pub outside : (k : ℕ) → (Covers blanks k → ⊥) → slice_index y k ≡ slice_index x k
