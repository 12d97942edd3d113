use Rattle.std.proofs.Common.{rules}
use Rattle.coset_keys.proofs.sec1.write_signed.Goals as goal

pub returns : goal.returns
returns c = search rules
