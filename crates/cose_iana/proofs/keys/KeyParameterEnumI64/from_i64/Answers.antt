use Rattle.cose_iana.specs.Keys.{key_parameters}
use Rattle.cose_iana.proofs.Found.{entry, found}
use Rattle.cose_iana.proofs.keys.KeyParameterEnumI64.from_i64.Goals as goal

pub returns : goal.returns
unfolding key_parameters
returns c = record { entry = entry key_parameters _ _ c.ranges.i c.entry_with.ensures; found = found key_parameters _ _ c.ranges.i c.entry_with.ensures }
