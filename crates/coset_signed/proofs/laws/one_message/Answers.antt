use Rattle.coset_signed.proofs.Unique.{sign1_once, sign_once}
use Rattle.coset_signed.proofs.laws.one_message.Goals as goal

pub returns : goal.returns
returns c = record { sign1 = sign1_once; sign = sign_once }
