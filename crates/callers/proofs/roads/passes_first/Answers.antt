use Rattle.std.proofs.Common.{refl}
use Rattle.callers.proofs.Agreed.{first_passes}
use Rattle.callers.proofs.roads.passes_first.Goals as goal

pub returns-in-Ok-clause-first : goal.returns-in-Ok-clause-first
returns-in-Ok-clause-first c =
    first_passes _ _ _ _ _ _ _ _ _ _ _ _ c.args.input.now c.one_spelling.ensures c.one_finding.ensures c.in-Ok.ensures.ok
    (rw (c.from-decoder.ensures.0, c.from-decoder.ensures.2) refl)
