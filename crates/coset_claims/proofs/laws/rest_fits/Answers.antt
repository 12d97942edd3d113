use Rattle.std.proofs.Common.{arith}
use Rattle.coset_claims.proofs.Fitting.{entry_fits}
use Rattle.coset_claims.proofs.laws.rest_fits.Goals as goal

pub entries-preserved : goal.entries-preserved
entries-preserved c = entry_fits c.args.rest.now c.entries.entry-index _ (omega arith) c.entry-item.is c.entries.invariant c.name_fits.ensures c.value_fits.ensures
