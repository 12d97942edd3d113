use Rattle.std.proofs.Common.{sym, ◌∙◌}
use Rattle.callers.proofs.Keys.{protected_id_is}
use Rattle.callers.proofs.judging.protected_id_of.Goals as goal

pub returns : goal.returns
returns c = c.id_of.ensures ∙ sym (protected_id_is c.args.protected.now)
