use Rattle.cose_iana.specs.Algorithms.{algorithms}
use Rattle.cose_iana.proofs.Found.{entry, found}
use Rattle.cose_iana.proofs.algorithm.AlgorithmEnumI64.from_i64.Goals as goal

pub returns : goal.returns
unfolding algorithms
returns c = record { entry = entry algorithms _ _ c.ranges.i c.entry_with.ensures; found = found algorithms _ _ c.ranges.i c.entry_with.ensures }
