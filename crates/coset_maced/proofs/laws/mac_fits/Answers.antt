use Rattle.std.proofs.Common.{◌≡◌, Some, subst}
use Rattle.ciborium_value.specs.Tree.{Tree, bytes}
use Rattle.ciborium_value.specs.Encoding.{Fits}
use Rattle.coset_recipients.specs.Short.{RecipientsShort}
use Rattle.coset_recipients.specs.View.{recipients_view}
use Rattle.coset_recipients.specs.Written.{list_tree}
use Rattle.coset_maced.specs.View.{mac_view}
use Rattle.coset_maced.proofs.Fit.{mac_fit}
use Rattle.coset_maced.proofs.laws.mac_fits.Goals as goal

pub returns : goal.returns
returns c = λ u e s.
    mac_fit (mac_view c.args.message.now) u c.parts_fit.ensures (subst (λ z. Fits (bytes z)) c.deref.ensures.value c.bytes_fit.ensures)
    (subst (λ z. (v : Tree) → list_tree (recipients_view z) ≡ Some v → RecipientsShort (recipients_view z) → Fits v) c.deref-2.ensures.value c.recipients_fit.ensures) e s
