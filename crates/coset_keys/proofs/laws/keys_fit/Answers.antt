use Rattle.std.proofs.Common.{arith}
use Rattle.coset_keys.proofs.Fitting.{key_taken}
use Rattle.coset_keys.proofs.laws.keys_fit.Goals as goal

pub keys-preserved : goal.keys-preserved
keys-preserved c = key_taken c.args.keys.now c.keys.key-index _ (omega arith) c.key-item.is c.keys.invariant c.key_fits.ensures.tree
