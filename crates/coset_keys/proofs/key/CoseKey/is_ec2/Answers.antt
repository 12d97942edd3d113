use Rattle.coset_keys.proofs.Numbers.{ec2_test}
use Rattle.coset_keys.proofs.key.CoseKey.is_ec2.Goals as goal

pub returns : goal.returns
returns c = ec2_test c.args.self.now.kty _ c.eq.ensures
