-- What is written of a list of recipients that was read has them again, nests no deeper, and is
-- read again.
use Rattle.std.proofs.Common.{ℕ}
use Rattle.coset_recipients.proofs.PartsKept.{Kept}
use Rattle.coset_recipients.specs.Fields.{RecipientsFields}
use Rattle.coset_recipients.specs.Shapes.{HasList}
use Rattle.coset_recipients.specs.Written.{list_tree}
use Rattle.coset_recipients.proofs.Again.{list_again}
use Rattle.coset_recipients.proofs.Sound.{list_sound}
use Rattle.coset_recipients.proofs.Writable.{list_some}

pub list_kept : (n : ℕ) (rs : RecipientsFields) (k : ℕ) → Kept (λ t. HasList n t rs k) (list_tree rs)
list_kept n rs k = record {
  some = λ t h. list_some n rs t k h;
  again = λ t u h e. list_again n rs t u k h e;
  sound = λ d t u h e s. list_sound n rs t u k d h e s;
}
