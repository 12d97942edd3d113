use Rattle.std.proofs.Common.{◌≤◌, arith}
use Rattle.std.proofs.Math.Pow.{pow_mono}
use Rattle.coset_claims.proofs.seconds.bits_cmp.Goals as goal

pub overflow_sub-least : goal.overflow_sub-least
overflow_sub-least c = rw (c.pow-6.ensures) (pow_mono {i = 1} (omega (arith, c.requires.some)))
