use Rattle.std.proofs.Common.{refl}
use Rattle.callers.proofs.Told.{asked, asked_in_part}
use Rattle.callers.proofs.asking.ask.Goals as goal

pub returns-in-Ok-clause-ok : goal.returns-in-Ok-clause-ok
returns-in-Ok-clause-ok c = asked _ _ _ _ _ _ c.from-decoder.ensures.1 (rw (c.from-decoder.ensures.0, c.from-decoder.ensures.2) refl) _ c.in-Ok.ensures.ran

pub returns-in-Err-clause-err : goal.returns-in-Err-clause-err
returns-in-Err-clause-err c = asked_in_part _ _ _ _ _ _ c.from-decoder.ensures.1 (rw (c.from-decoder.ensures.0, c.from-decoder.ensures.2) refl) _ c.in-Err.ensures.ran
