-- The entries of a map whose keys are labels, or names of a registry: what is at a number, and that
-- no key is repeated. `read` says which key a value is.
use Rattle.std.specs.Prelude.{◌≡◌, ℕ, ℤ, pos, negsuc, ◌⊎◌, List, [], ◌∷◌, Bool, false, if◌then◌else◌, nat_eq, Option, Some, None, option_map, option_and_then}
use Rattle.ciborium_value.specs.Tree.{Tree, Pairs, no_pairs, pair_more}
use Rattle.coset_labels.specs.Fields.{LabelFields, number, words, Named, private_use, assigned, named}

abbrev pub is_number : ℕ → ℤ → Bool
is_number n (pos m) = nat_eq n m
is_number n (negsuc m) = false

-- the label n
abbrev pub is_label : ℕ → LabelFields → Bool
is_label n (number i) = is_number n i
is_label n (words b) = false

-- the entry n of a registry
abbrev pub is_name : ℕ → Named → Bool
is_name n (assigned i) = is_number n i
is_name n (private_use i) = false
is_name n (named b) = false

module _ {K : Type 0} where
  -- the entries with their keys, or none if one of them has none
  abbrev pub entries : (Tree → Option K) → Pairs → Option (List (K × Tree))
  entries read no_pairs = Some []
  entries read (pair_more l v ps) = option_and_then (λ m. option_map (λ es. (m, v) ∷ es) (entries read ps)) (read l)

  -- the value at the first such key
  abbrev pub at : (K → Bool) → List (K × Tree) → Option Tree
  at is [] = None
  at is (e ∷ es) = if is e.0 then Some e.1 else at is es

  abbrev pub IsIn : K → List (K × Tree) → Type 0
  IsIn m [] = ⊥
  IsIn m (e ∷ es) = (m ≡ e.0) ⊎ IsIn m es

  -- no key is repeated
  abbrev pub Distinct : List (K × Tree) → Type 0
  Distinct [] = Unit {0}
  Distinct (e ∷ es) = (IsIn e.0 es → ⊥) × Distinct es

  -- the entries whose keys have no field of their own, in order
  abbrev pub others : (K → Bool) → List (K × Tree) → List (K × Tree)
  others is_own [] = []
  others is_own (e ∷ es) = if is_own e.0 then others is_own es else e ∷ others is_own es

-- the field is what the value there is, and `absent` if none is
abbrev pub IsField : {A : Type 0} → (Tree → Option A) → A → Option Tree → A → Type 0
IsField f absent None x = x ≡ absent
IsField f absent (Some t) x = f t ≡ Some x
