-- Limits of reading: those that a caller chooses, and those if none are chosen.
use Rattle.std.specs.Prelude.{ℕ, ◌≤◌}
pub use Rattle.ciborium.specs.Items.{nesting}
use Rattle.coset_labels.specs.declared.limits.Limits.{Limits}

-- how many protected headers may lie inside one another, by counter signatures (RFC 9052, section
-- 3.1)
abbrev pub layers : ℕ
layers = 16

-- what a caller may choose: a nesting of 2 to 4,096, and 1 to 64 layers
abbrev pub AreLimits : ℕ → ℕ → Type 0
AreLimits n k = (2 ≤ n) × (n ≤ 4096) × (1 ≤ k) × (k ≤ 64)

abbrev pub nesting_of : Limits → ℕ
nesting_of l = l.nesting

abbrev pub layers_of : Limits → ℕ
layers_of l = l.layers
