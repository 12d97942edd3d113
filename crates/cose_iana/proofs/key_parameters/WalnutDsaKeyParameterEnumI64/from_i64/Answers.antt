use Rattle.cose_iana.specs.KeyParameters.{walnut_dsa_key_parameters}
use Rattle.cose_iana.proofs.Found.{entry, found}
use Rattle.cose_iana.proofs.key_parameters.WalnutDsaKeyParameterEnumI64.from_i64.Goals as goal

pub returns : goal.returns
unfolding walnut_dsa_key_parameters
returns c = record { entry = entry walnut_dsa_key_parameters _ _ c.ranges.i c.entry_with.ensures; found = found walnut_dsa_key_parameters _ _ c.ranges.i c.entry_with.ensures }
