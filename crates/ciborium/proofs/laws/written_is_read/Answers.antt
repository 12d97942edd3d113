use Rattle.ciborium.proofs.ReadBack.{back_read, back_front, back_whole, back_taken, back_alike}
use Rattle.ciborium.proofs.laws.written_is_read.Goals as goal

pub returns-clause-read : goal.returns-clause-read
returns-clause-read g c k = back_read g.T.Serialize.put g.T.Deserialize.refusal g.T.Deserialize.takes c.args.value.now c.written_fits.ensures.fits c.written_fits.ensures.assigned (g.met.T.RoundTrip.taken_back c.args.value.now k)

pub returns-clause-front : goal.returns-clause-front
returns-clause-front g c k = back_front g.T.Serialize.put g.T.Deserialize.refusal g.T.Deserialize.takes c.args.value.now c.written_fits.ensures.fits c.written_fits.ensures.assigned (g.met.T.RoundTrip.taken_back c.args.value.now k)

pub returns-clause-whole : goal.returns-clause-whole
returns-clause-whole g c k = back_whole g.T.Serialize.put g.T.Deserialize.refusal g.T.Deserialize.takes c.args.value.now c.written_fits.ensures.fits c.written_fits.ensures.assigned (g.met.T.RoundTrip.taken_back c.args.value.now k)

pub returns-clause-item : goal.returns-clause-item
returns-clause-item g c k = back_taken g.T.Serialize.put g.T.Deserialize.refusal g.T.Deserialize.takes c.args.value.now c.written_fits.ensures.fits c.written_fits.ensures.assigned (g.met.T.RoundTrip.taken_back c.args.value.now k)

pub returns-clause-alike : goal.returns-clause-alike
returns-clause-alike g c k = back_alike g.T.Serialize.put g.T.Deserialize.refusal g.T.Deserialize.takes c.args.value.now c.written_fits.ensures.fits c.written_fits.ensures.assigned (g.met.T.RoundTrip.taken_back c.args.value.now k) g.met.T.RoundTrip.takes_one
