-- How equality, order and hash agree.
use Rattle.std.specs.Prelude.{◌≡◌, ◌↔◌, IsTrue, Bool, Option, Some}
use Rattle.std.specs.Hash.{HashWrites}
use Rattle.std.specs.declared.cmp.Ordering.{Ordering}
use Rattle.std.specs.declared.cmp.Ordering.TheVariants.{Equal}

-- two values are equal exactly if neither comes first, both orders give the same, and equal
-- ones hash alike
abbrev pub Agree : {T : Type 0} → (T → T → Bool) → (T → T → Ordering) → (T → T → Option Ordering) → (T → HashWrites) → T → T → Type 0
Agree eq cmp partial_cmp hash_input a b =
    (IsTrue (eq a b) ↔ (cmp a b ≡ Equal)) × (partial_cmp a b ≡ Some (cmp a b)) × (IsTrue (eq a b) → hash_input a ≡ hash_input b)
