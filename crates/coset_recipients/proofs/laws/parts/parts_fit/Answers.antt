use Rattle.coset_headers.specs.View.{protected_view, header_view}
use Rattle.coset_recipients.proofs.PartsFit.{values_fit}
use Rattle.coset_recipients.proofs.laws.parts.parts_fit.Goals as goal

pub returns : goal.returns
returns c = λ ts e s. values_fit (protected_view c.args.protected.now) (header_view c.args.unprotected.now) _ ts c.protected_fits.ensures c.header_fits.ensures c.optional_fits.ensures e s
