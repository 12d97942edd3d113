use Rattle.cose_iana.specs.KeyParameters.{akp_key_parameters}
use Rattle.cose_iana.proofs.Found.{entry, found}
use Rattle.cose_iana.proofs.key_parameters.AkpKeyParameterEnumI64.from_i64.Goals as goal

pub returns : goal.returns
unfolding akp_key_parameters
returns c = record { entry = entry akp_key_parameters _ _ c.ranges.i c.entry_with.ensures; found = found akp_key_parameters _ _ c.ranges.i c.entry_with.ensures }
