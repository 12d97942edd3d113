use Rattle.cose_gate.proofs.Pieces.{pieces_sum, pieces_each, pieces_few}
use Rattle.cose_gate.proofs.stream_laws.pieces_fit.Goals as goal

pub returns-clause-sum : goal.returns-clause-sum
returns-clause-sum c = pieces_sum

pub returns-clause-each : goal.returns-clause-each
returns-clause-each c = pieces_each

pub returns-clause-few : goal.returns-clause-few
returns-clause-few c = pieces_few
