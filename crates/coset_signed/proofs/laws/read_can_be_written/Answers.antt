use Rattle.coset_signed.proofs.Writable.{sign1_some, sign_some, sign1_covers, sign_covers}
use Rattle.coset_signed.proofs.laws.read_can_be_written.Goals as goal

pub returns : goal.returns
returns c = record { sign1 = sign1_some; sign = sign_some; sign1_covered = sign1_covers; sign_covered = sign_covers }
