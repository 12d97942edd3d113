use Rattle.std.proofs.Common.{refl}
use Rattle.callers.proofs.Over.{counts_all}
use Rattle.callers.proofs.roads.count.Goals as goal

pub returns-in-Ok : goal.returns-in-Ok
returns-in-Ok c = λ ss rest run. counts_all _ _ _ _ _ _ c.in-Ok.ensures.ran (rw (c.from-decoder.ensures.0, c.from-decoder.ensures.2) refl) c.from-decoder.ensures.1 ss rest run
