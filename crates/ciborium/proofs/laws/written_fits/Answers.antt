use Rattle.ciborium.proofs.Fitting.{item_fits}
use Rattle.ciborium.proofs.laws.written_fits.Goals as goal

pub returns-clause-fits : goal.returns-clause-fits
returns-clause-fits g c = (item_fits (g.T.Serialize.put c.args.value.now) c.in-Ok.ensures.ok).0

pub returns-clause-assigned : goal.returns-clause-assigned
returns-clause-assigned g c = (item_fits (g.T.Serialize.put c.args.value.now) c.in-Ok.ensures.ok).1
