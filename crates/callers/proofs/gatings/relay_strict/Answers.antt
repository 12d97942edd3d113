use Rattle.std.proofs.Common.{ℕ, Some, ap, sym, refl, ◌∙◌}
use Rattle.std.specs.Global.{Vec}
use Rattle.callers.proofs.Relay.{ran_whole}
use Rattle.callers.proofs.gatings.relay_strict.Goals as goal

pub returns-in-Ok-clause-run : goal.returns-in-Ok-clause-run
returns-in-Ok-clause-run c = λ ss rest run.
    ran_whole _ _ _ _ _ _ _ _ _ ss rest c.in-Ok.ensures.ran c.from-decoder.ensures.1 (rw (c.from-decoder.ensures.0, c.from-decoder.ensures.2) refl)
    (ap (λ (v : Vec ℕ). Some v.items) c.new-out.ensures.inner ∙ ap Some c.new.ensures.items) (ap (λ (v : Vec ℕ). Some v.items) (sym c.into_inner.ensures)) run
