use Rattle.std.proofs.Common.{◌≤◌, ◌∷◌, length, reverse}
use Rattle.ciborium.specs.Frames.{GoesUp}
use Rattle.ciborium.proofs.frames.hand.Given as goal

abbrev pub invariant-levels : goal.invariant-levels
invariant-levels g l = record {
  up : GoesUp (l.fn.top ∷ reverse l.fn.below.items) (l.top ∷ reverse l.below.items) l.fn.value l.value l.fn.exact.holds l.exact.holds;
  fewer : length l.below.items ≤ length l.fn.below.items;
}

abbrev pub decreases-levels : goal.decreases-levels
decreases-levels g l = length l.below.items
