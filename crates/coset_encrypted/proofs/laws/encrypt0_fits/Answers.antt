use Rattle.coset_encrypted.specs.View.{encrypt0_view}
use Rattle.coset_encrypted.proofs.Fit.{encrypt0_fit}
use Rattle.coset_encrypted.proofs.laws.encrypt0_fits.Goals as goal

pub returns : goal.returns
returns c = λ u e s. encrypt0_fit (encrypt0_view c.args.message.now) u c.parts_fit.ensures e s
