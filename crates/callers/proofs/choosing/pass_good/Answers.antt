use Rattle.std.proofs.Common.{ℕ, Some, ap, sym, subst, refl, ◌∙◌}
use Rattle.std.specs.Global.{Vec}
use Rattle.callers.specs.Asking.{IsPassedBy}
use Rattle.callers.specs.Choosing.{is_good}
use Rattle.callers.specs.declared.choosing.Secrets.{Secrets}
use Rattle.callers.proofs.Told.{passed_by}
use Rattle.callers.proofs.choosing.pass_good.Goals as goal

pub returns-in-Ok : goal.returns-in-Ok
returns-in-Ok c =
    subst (λ (s : Secrets). IsPassedBy (is_good s.0.now) c.args.aad.now c.args.input.now c.into_inner.result.items c.in-Ok.counts) c.new-judge.ensures
    (passed_by _ _ _ _ _ _ _ c.from-decoder.ensures.1 (rw (c.from-decoder.ensures.0, c.from-decoder.ensures.2) refl) _ _
    (ap (λ (v : Vec ℕ). Some v.items) c.new-out.ensures.inner ∙ ap Some c.new.ensures.items)
    (ap (λ (v : Vec ℕ). Some v.items) (sym c.into_inner.ensures)) c.in-Ok.ensures.ran)
