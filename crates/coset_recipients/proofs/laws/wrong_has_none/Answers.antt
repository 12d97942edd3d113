use Rattle.coset_recipients.proofs.Excludes.{recipient_not, list_not}
use Rattle.coset_recipients.proofs.laws.wrong_has_none.Goals as goal

pub returns : goal.returns
returns c = record {
  recipient = λ n k t e r w a. recipient_not n t k e w r a;
  list = λ n k t e rs w a. list_not n t k e w rs a;
}
