use Rattle.std.proofs.Common.{subst, take_all}
use Rattle.coset_headers.proofs.Fit.{Each, NameFits, each_taken, names_all}
use Rattle.coset_headers.proofs.fits.crit_fits.Goals as goal

pub names-preserved : goal.names-preserved
names-preserved c = each_taken NameFits c.args.crit.now c.names.name-index c.name-item.result c.names-test.true c.name-item.is c.names.invariant c.name_fits.ensures

pub returns-clause-fits : goal.returns-clause-fits
returns-clause-fits c = names_all c.args.crit.now (subst (Each NameFits) (take_all c.names.name-index c.args.crit.now c.names-test.false) c.names.invariant)
