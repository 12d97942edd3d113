use Rattle.cose_iana.specs.KeyParameters.{rsa_key_parameters}
use Rattle.cose_iana.proofs.Found.{entry, found}
use Rattle.cose_iana.proofs.key_parameters.RsaKeyParameterEnumI64.from_i64.Goals as goal

pub returns : goal.returns
unfolding rsa_key_parameters
returns c = record { entry = entry rsa_key_parameters _ _ c.ranges.i c.entry_with.ensures; found = found rsa_key_parameters _ _ c.ranges.i c.entry_with.ensures }
