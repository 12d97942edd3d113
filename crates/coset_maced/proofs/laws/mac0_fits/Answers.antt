use Rattle.std.proofs.Common.{subst}
use Rattle.ciborium_value.specs.Tree.{bytes}
use Rattle.ciborium_value.specs.Encoding.{Fits}
use Rattle.coset_maced.specs.View.{mac0_view}
use Rattle.coset_maced.proofs.Fit.{mac0_fit}
use Rattle.coset_maced.proofs.laws.mac0_fits.Goals as goal

pub returns : goal.returns
returns c = λ u e s.
    mac0_fit (mac0_view c.args.message.now) u c.parts_fit.ensures (subst (λ z. Fits (bytes z)) c.deref.ensures.value c.bytes_fit.ensures) e s
