use Rattle.std.proofs.Common.{◌≡◌, length}
use Rattle.ciborium_value.specs.Folding.{without_zeros}
use Rattle.ciborium_value.proofs.bignum.stripped.Given as goal

abbrev pub invariant-zeros : goal.invariant-zeros
invariant-zeros l = without_zeros l.rest ≡ without_zeros l.bytes

abbrev pub decreases-zeros : goal.decreases-zeros
decreases-zeros l = length l.rest
