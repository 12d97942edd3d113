use Rattle.coset_encrypted.proofs.Equal.{encrypts}
use Rattle.coset_encrypted.proofs.laws.encrypt_compare.Goals as goal

pub returns : goal.returns
returns c = encrypts c.args.a.now c.args.b.now
