use Rattle.coset_claims.proofs.Scaled.{scaled}
use Rattle.coset_claims.proofs.seconds.scaled_cmp.Goals as goal

pub returns : goal.returns
returns c = rw (c.cmp.ensures, c.from.ensures, c.from-2.ensures, c.min-up.ensures, c.min-down.ensures, c.saturating_sub.ensures, c.saturating_sub-2.ensures) (scaled c.args.a c.args.b c.args.j c.args.k c.ranges.a.fits c.ranges.b.fits)
