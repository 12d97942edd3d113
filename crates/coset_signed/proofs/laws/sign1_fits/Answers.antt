use Rattle.std.proofs.Common.{subst}
use Rattle.ciborium_value.specs.Tree.{bytes}
use Rattle.ciborium_value.specs.Encoding.{Fits}
use Rattle.coset_signed.specs.View.{sign1_view}
use Rattle.coset_signed.proofs.Fit.{sign1_fit}
use Rattle.coset_signed.proofs.laws.sign1_fits.Goals as goal

pub returns : goal.returns
returns c = λ u e s.
    sign1_fit (sign1_view c.args.message.now) u c.parts_fit.ensures (subst (λ z. Fits (bytes z)) c.deref.ensures.value c.bytes_fit.ensures) e s
