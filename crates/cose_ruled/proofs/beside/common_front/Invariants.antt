use Rattle.std.proofs.Common.{◌≡◌, ◌+◌, ◌-◌, ◌≤◌, length, drop}
use Rattle.cose_ruled.specs.Blocks.{common_front}
use Rattle.cose_ruled.proofs.beside.common_front.Given as goal

-- so many are the same, and then as many as the rests begin with
abbrev pub invariant-loop-count : goal.invariant-loop-count
invariant-loop-count l = (l.count ≤ length l.xs) × (l.count ≤ length l.ys)
    × (l.count + common_front (drop l.count l.xs) (drop l.count l.ys) ≡ common_front l.xs l.ys)

abbrev pub decreases-loop-count : goal.decreases-loop-count
decreases-loop-count l = length l.xs - l.count
