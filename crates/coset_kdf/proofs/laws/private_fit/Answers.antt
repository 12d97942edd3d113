use Rattle.std.proofs.Common.{arith}
use Rattle.coset_kdf.proofs.Fitting.{item_fits}
use Rattle.coset_kdf.proofs.laws.private_fit.Goals as goal

pub private-preserved : goal.private-preserved
private-preserved c = item_fits c.args.private.now c.private.content-index _ (omega arith) c.content-item.is c.private.invariant c.vec_fits.ensures
