use Rattle.std.proofs.Common.{ℕ, Some, ap, sym, refl, ◌∙◌}
use Rattle.std.specs.Global.{Vec}
use Rattle.callers.proofs.Relay.{whole, ran_whole, halted}
use Rattle.callers.proofs.relaying.relay.Goals as goal

pub returns-in-Ok-clause-ok : goal.returns-in-Ok-clause-ok
returns-in-Ok-clause-ok c =
    whole _ _ _ _ _ _ c.from-decoder.ensures.1 (rw (c.from-decoder.ensures.0, c.from-decoder.ensures.2) refl) _ _
    (ap (λ (v : Vec ℕ). Some v.items) c.new-out.ensures.inner ∙ ap Some c.new.ensures.items)
    (ap (λ (v : Vec ℕ). Some v.items) (sym c.into_inner.ensures)) c.in-Ok.ensures.ran

pub returns-in-Ok-clause-run : goal.returns-in-Ok-clause-run
returns-in-Ok-clause-run c = λ ss rest run.
    ran_whole _ _ _ _ _ _ _ _ _ ss rest c.in-Ok.ensures.ran c.from-decoder.ensures.1 (rw (c.from-decoder.ensures.0, c.from-decoder.ensures.2) refl)
    (ap (λ (v : Vec ℕ). Some v.items) c.new-out.ensures.inner ∙ ap Some c.new.ensures.items) (ap (λ (v : Vec ℕ). Some v.items) (sym c.into_inner.ensures)) run

pub returns-in-Err-clause-err : goal.returns-in-Err-clause-err
returns-in-Err-clause-err c =
    halted _ _ _ _ _ _ c.from-decoder.ensures.1 (rw (c.from-decoder.ensures.0, c.from-decoder.ensures.2) refl) _ c.in-Err.ensures.ran
