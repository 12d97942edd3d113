use Rattle.cose_iana.specs.KeyParameters.{ec2_key_parameters}
use Rattle.cose_iana.proofs.Found.{entry, found}
use Rattle.cose_iana.proofs.key_parameters.Ec2KeyParameterEnumI64.from_i64.Goals as goal

pub returns : goal.returns
unfolding ec2_key_parameters
returns c = record { entry = entry ec2_key_parameters _ _ c.ranges.i c.entry_with.ensures; found = found ec2_key_parameters _ _ c.ranges.i c.entry_with.ensures }
