use Rattle.cose_iana.specs.Headers.{header_parameters}
use Rattle.cose_iana.proofs.Found.{entry, found}
use Rattle.cose_iana.proofs.headers.HeaderParameterEnumI64.from_i64.Goals as goal

pub returns : goal.returns
unfolding header_parameters
returns c = record { entry = entry header_parameters _ _ c.ranges.i c.entry_with.ensures; found = found header_parameters _ _ c.ranges.i c.entry_with.ensures }
