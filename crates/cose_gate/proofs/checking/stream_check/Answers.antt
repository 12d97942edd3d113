use Rattle.ciborium_ll.specs.Views.{seen}
use Rattle.cose_gate.proofs.Exactly.{usual_err}
use Rattle.cose_gate.proofs.checking.stream_check.Goals as goal

pub returns-clause-err : goal.returns-clause-err
returns-clause-err g c = usual_err g.R.Read.ends _ _ _ (seen g.R.Read c.args.decoder.now) _ c.default.ensures.0 c.default.ensures.1 c.stream_check_with.ensures.err
