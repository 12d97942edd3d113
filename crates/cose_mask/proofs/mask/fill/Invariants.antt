use Rattle.std.proofs.Common.{◌≡◌, ℕ, ◌<◌, ◌≤◌, ◌⊎◌, length, get_or}
use Rattle.cose_mask.proofs.mask.fill.Given as goal

abbrev pub invariant-loop-i : goal.invariant-loop-i
invariant-loop-i l =
    (length l.bytes ≡ length l.initial.bytes)
    × ((k : ℕ) → l.fn.blank.at ≤ k → k < l.i → get_or l.bytes k 0 ≡ l.fn.blank.with)
    × ((k : ℕ) → (k < l.fn.blank.at) ⊎ (l.i ≤ k) → get_or l.bytes k 0 ≡ get_or l.initial.bytes k 0)
    × ((l.i ≤ l.end) ⊎ (l.i ≤ l.fn.blank.at))
