use Rattle.ciborium_value.specs.View.{view}
use Rattle.ciborium.proofs.ReadBack.{taken_read, read_taken, folding_read}
use Rattle.ciborium.proofs.laws.reading_takes.Goals as goal

pub returns-clause-taken : goal.returns-clause-taken
returns-clause-taken g c = taken_read g.T.Deserialize.refusal g.T.Deserialize.takes (view c.args.value.now) c.value_fits.ensures c.values_are_assigned.ensures

pub returns-clause-read : goal.returns-clause-read
returns-clause-read g c = read_taken g.T.Deserialize.refusal g.T.Deserialize.takes (view c.args.value.now) c.value_fits.ensures c.values_are_assigned.ensures

pub returns-clause-item : goal.returns-clause-item
returns-clause-item g c = λ limit t. folding_read limit (view c.args.value.now) t c.value_fits.ensures c.values_are_assigned.ensures
