use Rattle.ciborium.proofs.ReadBack.{read_agrees, front_agrees, taken_agrees}
use Rattle.ciborium.proofs.laws.readings_agree.Goals as goal

pub returns-clause-read : goal.returns-clause-read
returns-clause-read g c = read_agrees g.T.Serialize.put g.T.Deserialize.refusal g.T.Deserialize.takes g.met.T.RoundTrip.takes_one

pub returns-clause-front : goal.returns-clause-front
returns-clause-front g c = front_agrees g.T.Serialize.put g.T.Deserialize.refusal g.T.Deserialize.takes g.met.T.RoundTrip.takes_one

pub returns-clause-taken : goal.returns-clause-taken
returns-clause-taken g c = taken_agrees g.T.Serialize.put g.T.Deserialize.refusal g.T.Deserialize.takes g.met.T.RoundTrip.takes_one
