use Rattle.coset_recipients.specs.View.{recipients_view}
use Rattle.coset_recipients.proofs.Fit.{list_fit}
use Rattle.coset_recipients.proofs.laws.recipients_fit.Goals as goal

pub returns : goal.returns
returns c = λ u e s. list_fit (recipients_view c.args.recipients.now) u c.all_fit.ensures.fits c.all_fit.ensures.count e s
