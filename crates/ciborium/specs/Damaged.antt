-- Faults without their places.
use Rattle.std.specs.Prelude.{ℕ, List}
use Rattle.ciborium.specs.Damage.{Fault, end, deep, syntax, semantic, Damage}

-- the fault is due at the front of the bytes `b`, whatever number a `syntax` has
abbrev pub Damaged : ℕ → List ℕ → ℕ → Fault → Type 0
Damaged stop b limit end = Damage stop b limit end
Damaged stop b limit deep = Damage stop b limit deep
Damaged stop b limit (syntax p) = (q : ℕ) × Damage stop b limit (syntax q)
Damaged stop b limit (semantic k) = Damage stop b limit (semantic k)
