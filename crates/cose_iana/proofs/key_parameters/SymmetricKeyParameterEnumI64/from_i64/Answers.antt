use Rattle.cose_iana.specs.KeyParameters.{symmetric_key_parameters}
use Rattle.cose_iana.proofs.Found.{entry, found}
use Rattle.cose_iana.proofs.key_parameters.SymmetricKeyParameterEnumI64.from_i64.Goals as goal

pub returns : goal.returns
unfolding symmetric_key_parameters
returns c = record { entry = entry symmetric_key_parameters _ _ c.ranges.i c.entry_with.ensures; found = found symmetric_key_parameters _ _ c.ranges.i c.entry_with.ensures }
