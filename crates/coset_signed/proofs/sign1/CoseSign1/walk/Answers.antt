use Rattle.ciborium_ll.specs.Views.{seen}
use Rattle.ciborium.proofs.FrontLemmas.{four_as, four_passed_on}
use Rattle.coset_signed.proofs.sign1.CoseSign1.walk.Goals as goal

pub returns-in_err-elements-clause-read : goal.returns-in_err-elements-clause-read
returns-in_err-elements-clause-read g c = four_passed_on g.R.Read.ends c.args.limit _ _ _ _ (seen g.R.Read c.args.decoder.now) (seen g.R.Read c.take.new.decoder) c.from_residual.ensures.1 c.in_err-elements.ensures.read

pub returns-clause-read : goal.returns-clause-read
returns-clause-read g c = four_as g.R.Read.ends c.args.limit _ _ _ _ (seen g.R.Read c.args.decoder.now) (seen g.R.Read c.take.new.decoder) (λ ts p. c.fill_elements.ensures ts p) c.in_ok-elements.ensures.read
