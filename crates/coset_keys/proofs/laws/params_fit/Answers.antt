use Rattle.std.proofs.Common.{arith}
use Rattle.coset_keys.proofs.Fitting.{entry_fits}
use Rattle.coset_keys.proofs.laws.params_fit.Goals as goal

pub entries-preserved : goal.entries-preserved
entries-preserved c = entry_fits c.args.params.now c.entries.entry-index _ (omega arith) c.entry-item.is c.entries.invariant c.label_fits.ensures c.value_fits.ensures
