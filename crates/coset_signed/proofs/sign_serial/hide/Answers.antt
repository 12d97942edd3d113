use Rattle.std.proofs.Common.{rules}
use Rattle.coset_signed.proofs.sign_serial.hide.Goals as goal

pub returns-in-Memory : goal.returns-in-Memory
returns-in-Memory c = search rules
