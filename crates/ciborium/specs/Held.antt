-- How much memory a string is held in.
use Rattle.std.specs.Prelude.{◌≤◌, ℕ, ◌+◌, ◌*◌, List, length, Option, Some, None, Result, Err}
use Rattle.ciborium.specs.declared.de.Error.{Error}
use Rattle.ciborium.specs.declared.de.Error.TheVariants as code

-- the capacity is at most twice that of the bytes that came, and 4,096 more
abbrev pub IsEarned : ℕ → ℕ → Type 0
IsEarned came capacity = capacity ≤ 2 * came + 4096

-- the same of a buffer that had so many bytes, and of those that were read since, from the place
-- `at` to the place at'
abbrev pub IsEarnedSince : ℕ → ℕ → ℕ → ℕ → Type 0
IsEarnedSince had at at' capacity = capacity + 2 * at ≤ 2 * (had + at') + 4096

-- a string of these bytes whose head has the length o: a definite one is held in its own size
abbrev pub IsFitting : Option ℕ → List ℕ → ℕ → Type 0
IsFitting None items capacity = IsEarned (length items) capacity
IsFitting (Some n) items capacity = capacity ≤ n

-- P holds at any result but `Memory`
abbrev pub UnlessMemory : {T E : Type 0} → Result T (Error E) → Type 0 → Type 0
UnlessMemory (Err code.Memory) P = Unit {0}
UnlessMemory r P = P
