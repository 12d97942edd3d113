use Rattle.std.proofs.KnownBytes.{Keeps-trans}
use Rattle.ciborium_ll.specs.Views.{seen}
use Rattle.cose_sift.proofs.TakenItem.{begun_step, begun_done, begun_fails, begun_place, halted, no_place}
use Rattle.cose_sift.proofs.Deep.{begun_deep}
use Rattle.cose_sift.proofs.items.take_item.Goals as goal
use Rattle.std.proofs.Common.{◌∙◌}

pub steps-preserved : goal.steps-preserved
steps-preserved g c = record {
  begun = begun_step (seen g.R.Read c.args.decoder.now) (seen g.R.Read c.steps.decoder) (seen g.R.Read c.step.new.decoder) c.steps.taking c.step.new.self c.steps.invariant.begun c.in-Ok-step.ensures.ok;
  due = c.is_done.ensures.due c.if-is_done.false;
  sound = λ s. c.in-Ok-step.ensures.sound (c.steps.invariant.sound s);
  fresh = c.in-Ok-step.ensures.fresh;
  failed = c.in-Ok-step.ensures.failed ∙ c.steps.invariant.failed;
  out = Keeps-trans _ _ _ c.steps.invariant.out c.hand_on.ensures.out;
  lines = Keeps-trans _ _ _ c.steps.invariant.lines c.hand_on.ensures.lines;
  writer = c.in-Ok.ensures.writer ∙ c.steps.invariant.writer;
  max = c.in-Ok-step.ensures.max ∙ c.steps.invariant.max;
  most = c.in-Ok-step.ensures.most ∙ c.steps.invariant.most;
}

pub returns-then-is_done-clause-ok : goal.returns-then-is_done-clause-ok
returns-then-is_done-clause-ok g c =
    let b = begun_step (seen g.R.Read c.args.decoder.now) (seen g.R.Read c.steps.decoder) (seen g.R.Read c.step.new.decoder) c.steps.taking c.step.new.self c.steps.invariant.begun c.in-Ok-step.ensures.ok in
    begun_done (seen g.R.Read c.args.decoder.now) (seen g.R.Read c.step.new.decoder) c.step.new.self b (c.is_done.ensures.done c.if-is_done.true)

pub returns-in-Err-step-clause-err : goal.returns-in-Err-step-clause-err
returns-in-Err-step-clause-err g c = begun_fails (seen g.R.Read c.args.decoder.now) (seen g.R.Read c.steps.decoder) (seen g.R.Read c.step.new.decoder) c.steps.taking c.in-Err-step.stop c.steps.invariant.begun c.in-Err-step.ensures.err

pub returns-in-Err-clause-err : goal.returns-in-Err-clause-err
returns-in-Err-clause-err g c = halted (seen g.R.Read c.args.decoder.now) (seen g.R.Read c.steps.decoder) c.in-Err.halt c.in-Err.ensures.err

pub returns-in-Err-step-clause-place : goal.returns-in-Err-step-clause-place
returns-in-Err-step-clause-place g c = λ s.
    begun_place (seen g.R.Read c.args.decoder.now) (seen g.R.Read c.steps.decoder) (seen g.R.Read c.step.new.decoder) c.steps.taking c.in-Err-step.stop (c.steps.invariant.sound s) c.steps.invariant.begun c.in-Err-step.ensures.err

pub returns-in-Err-clause-place : goal.returns-in-Err-clause-place
returns-in-Err-clause-place g c = λ s. no_place (seen g.R.Read c.args.decoder.now) (seen g.R.Read c.steps.decoder) c.in-Err.halt c.in-Err.ensures.err

pub returns-in-Err-step-clause-deep : goal.returns-in-Err-step-clause-deep
returns-in-Err-step-clause-deep g c = λ s.
    begun_deep (seen g.R.Read c.args.decoder.now) (seen g.R.Read c.steps.decoder) (seen g.R.Read c.step.new.decoder) c.steps.taking c.args.taking.now.walk.most c.in-Err-step.stop c.steps.invariant.begun
    (rw c.steps.invariant.most at c.in-Err-step.ensures.deep (c.steps.invariant.sound s))
