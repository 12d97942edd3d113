use Rattle.std.proofs.Common.{length, ap, arith}
use Rattle.coset_headers.proofs.laws.written_header_fits.Goals as goal

pub returns : goal.returns
returns c = λ u e w. let l = ap length w in c.header_fits.ensures u e (c.small_is_short.ensures.header _ u e (omega (arith, l)))
