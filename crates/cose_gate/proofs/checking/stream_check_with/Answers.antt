use Rattle.std.proofs.Common.{Err}
use Rattle.cose_gate.proofs.Exactly.{answered}
use Rattle.cose_gate.proofs.checking.stream_check_with.Goals as goal

pub returns-in-Err-clause-exactly : goal.returns-in-Err-clause-exactly
returns-in-Err-clause-exactly g c = answered c.args.limits.nesting c.args.limits.layers g.R.Read.ends _ _ _ (Err c.in-Err.fault) c.in-Err.ensures.err
