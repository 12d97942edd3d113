use Rattle.cose_iana.specs.KeyParameters.{hss_lms_key_parameters}
use Rattle.cose_iana.proofs.Found.{entry, found}
use Rattle.cose_iana.proofs.key_parameters.HssLmsKeyParameterEnumI64.from_i64.Goals as goal

pub returns : goal.returns
unfolding hss_lms_key_parameters
returns c = record { entry = entry hss_lms_key_parameters _ _ c.ranges.i c.entry_with.ensures; found = found hss_lms_key_parameters _ _ c.ranges.i c.entry_with.ensures }
