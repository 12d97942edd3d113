use Rattle.std.proofs.Common.{ap, ◌∙◌}
use Rattle.cose_rules.proofs.Seen.{algorithm_is}
use Rattle.cose_gate_program.specs.Judging.{is_hmac}
use Rattle.cose_gate_program.proofs.verdict.alg_is_hmac.Goals as goal

pub returns : goal.returns
returns c = c.is_hmac.ensures ∙ ap is_hmac (algorithm_is c.args.protected.now)
