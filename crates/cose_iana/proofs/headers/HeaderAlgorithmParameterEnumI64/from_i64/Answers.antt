use Rattle.cose_iana.specs.Headers.{header_algorithm_parameters}
use Rattle.cose_iana.proofs.Found.{entry, found}
use Rattle.cose_iana.proofs.headers.HeaderAlgorithmParameterEnumI64.from_i64.Goals as goal

pub returns : goal.returns
unfolding header_algorithm_parameters
returns c = record { entry = entry header_algorithm_parameters _ _ c.ranges.i c.entry_with.ensures; found = found header_algorithm_parameters _ _ c.ranges.i c.entry_with.ensures }
