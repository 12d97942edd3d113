use Rattle.coset_recipients.proofs.Fit.{recipient_short, recipients_short}
use Rattle.coset_recipients.proofs.laws.read_is_short.Goals as goal

pub returns : goal.returns
returns c = record { recipient = λ n k t r. recipient_short n r t k; list = λ n k t rs a. recipients_short n rs a.0 k a.2 }
