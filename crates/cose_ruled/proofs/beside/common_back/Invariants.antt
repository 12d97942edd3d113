use Rattle.std.proofs.Common.{◌≡◌, ◌+◌, ◌-◌, ◌≤◌, length, drop, reverse}
use Rattle.cose_ruled.specs.Blocks.{common_front, common_back}
use Rattle.cose_ruled.proofs.beside.common_back.Given as goal

abbrev pub invariant-loop-count : goal.invariant-loop-count
invariant-loop-count l = (l.count ≤ length l.xs) × (l.count ≤ length l.ys)
    × (l.count + common_front (drop l.count (reverse l.xs)) (drop l.count (reverse l.ys)) ≡ common_back l.xs l.ys)

abbrev pub decreases-loop-count : goal.decreases-loop-count
decreases-loop-count l = length l.xs - l.count
