use Rattle.std.proofs.Common.{sym, ◌∙◌}
use Rattle.callers.proofs.Keys.{key_id_is}
use Rattle.callers.proofs.judging.id_of.Goals as goal

pub returns : goal.returns
returns c = c.as_slice.ensures.value ∙ sym (key_id_is c.args.header.now)
