use Rattle.std.proofs.Common.{subst, take_all}
use Rattle.coset_headers.proofs.Fit.{Each, EntryFits, each_taken, entries_all}
use Rattle.coset_headers.proofs.fits.rest_fits.Goals as goal

pub entries-preserved : goal.entries-preserved
entries-preserved c = each_taken EntryFits c.args.rest.now c.entries.entry-index c.entry-item.result c.entries-test.true c.entry-item.is c.entries.invariant (c.label_fits.ensures, c.value_fits.ensures)

pub returns-clause-fits : goal.returns-clause-fits
returns-clause-fits c = entries_all c.args.rest.now (subst (Each EntryFits) (take_all c.entries.entry-index c.args.rest.now c.entries-test.false) c.entries.invariant)
