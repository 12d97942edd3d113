use Rattle.std.proofs.Common.{take}
use Rattle.coset_headers.proofs.Fit.{Each, NameFits}
use Rattle.coset_headers.proofs.fits.crit_fits.Given as goal

abbrev pub invariant-names : goal.invariant-names
invariant-names l = Each NameFits (take l.name-index l.crit)
