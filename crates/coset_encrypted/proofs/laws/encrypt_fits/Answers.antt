use Rattle.std.proofs.Common.{◌≡◌, Some, subst}
use Rattle.ciborium_value.specs.Tree.{Tree}
use Rattle.ciborium_value.specs.Encoding.{Fits}
use Rattle.coset_recipients.specs.Short.{RecipientsShort}
use Rattle.coset_recipients.specs.View.{recipients_view}
use Rattle.coset_recipients.specs.Written.{list_tree}
use Rattle.coset_encrypted.specs.View.{encrypt_view}
use Rattle.coset_encrypted.proofs.Fit.{encrypt_fit}
use Rattle.coset_encrypted.proofs.laws.encrypt_fits.Goals as goal

pub returns : goal.returns
returns c = λ u e s.
    encrypt_fit (encrypt_view c.args.message.now) u c.parts_fit.ensures
    (subst (λ z. (v : Tree) → list_tree (recipients_view z) ≡ Some v → RecipientsShort (recipients_view z) → Fits v) c.deref.ensures.value c.recipients_fit.ensures) e s
