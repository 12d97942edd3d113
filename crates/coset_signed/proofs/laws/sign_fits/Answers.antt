use Rattle.std.proofs.Common.{◌≡◌, List, map, Some, subst}
use Rattle.ciborium_value.specs.Tree.{Tree, array}
use Rattle.ciborium_value.specs.View.{trees}
use Rattle.ciborium_value.specs.Encoding.{Fits}
use Rattle.coset_labels.specs.Arrays.{all_written}
use Rattle.coset_headers.specs.Short.{AllShort}
use Rattle.coset_headers.specs.View.{signature_view, signatures_view}
use Rattle.coset_headers.specs.Written.{signature_tree}
use Rattle.coset_signed.specs.View.{sign_view}
use Rattle.coset_signed.proofs.Fit.{sign_fit}
use Rattle.coset_signed.proofs.laws.sign_fits.Goals as goal

pub returns : goal.returns
returns c = λ u e s.
    sign_fit (sign_view c.args.message.now) u c.parts_fit.ensures
    (subst (λ z. (ts : List Tree) → all_written signature_tree (map signature_view z) ≡ Some ts → AllShort (signatures_view z) → Fits (array (trees ts))) c.deref.ensures.value c.signatures_fit.ensures) e s
