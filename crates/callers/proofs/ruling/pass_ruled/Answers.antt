use Rattle.std.proofs.Common.{ℕ, Some, ap, sym, subst, refl, ◌∙◌}
use Rattle.std.specs.Global.{Vec}
use Rattle.cose_ruled.specs.Judging.{RuledBy}
use Rattle.callers.specs.Asking.{IsPassedBy}
use Rattle.callers.specs.Ruling.{grants}
use Rattle.callers.specs.declared.ruling.Copies.{Copies}
use Rattle.callers.proofs.Told.{passed_by}
use Rattle.callers.proofs.ruling.pass_ruled.Goals as goal

pub returns-in-Ok : goal.returns-in-Ok
returns-in-Ok c =
    subst (λ (w : RuledBy Copies). IsPassedBy (grants w.keys) c.args.aad.now c.args.input.now c.into_inner.result.items c.in-Ok.counts) c.new-judge.ensures
    (passed_by _ _ _ _ _ _ _ c.from-decoder.ensures.1 (rw (c.from-decoder.ensures.0, c.from-decoder.ensures.2) refl) _ _
    (ap (λ (v : Vec ℕ). Some v.items) c.new-out.ensures.inner ∙ ap Some c.new.ensures.items)
    (ap (λ (v : Vec ℕ). Some v.items) (sym c.into_inner.ensures)) c.in-Ok.ensures.ran)
