use Rattle.std.proofs.Common.{take}
use Rattle.coset_headers.proofs.Fit.{Each, EntryFits}
use Rattle.coset_headers.proofs.fits.rest_fits.Given as goal

abbrev pub invariant-entries : goal.invariant-entries
invariant-entries l = Each EntryFits (take l.entry-index l.rest)
