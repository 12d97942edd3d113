use Rattle.std.proofs.Common.{◌+◌, ◌<◌, [], true, refl, ◌∙◌, arith, rules}
use Rattle.cose_gate_core.proofs.InOrder.{err_is}
use Rattle.cose_gate_core.proofs.Reach.{reached_start}
use Rattle.cose_gate_core.proofs.Outcomes.{answer_unflushed, reached_flushed}
use Rattle.cose_gate_core.proofs.gating.gate_by.Goals as goal

pub items-init : goal.items-init
items-init g c = record { who = refl; reader = refl; writer = refl; kept = refl; lent = refl; fresh = c.requires; room = omega arith; reached = ([], reached_start _ _) }

pub items-preserved : goal.items-preserved
items-preserved g c =
    let inv = c.items.invariant in
    let next = c.in_ok-next.ensures in
    let more = rw c.in-Some.is at next.more in
    let ran = rw c.in-Some.is at next.ran in
    let step = rw inv.who at ran in
    let over = c.in_ok-hand_over.ensures in
    let far = step true _ _ inv.reached.1 in
    record {
      who = next.who ∙ inv.who;
      reader = search rules;
      writer = search rules;
      kept = next.kept ∙ inv.kept;
      lent = over.lent ∙ next.lent ∙ inv.lent;
      fresh = λ s. next.fresh;
      room = omega arith;
      reached = (_, reached_flushed _ _ _ _ _ _ _ far.1 refl over.noted over.written refl refl);
    }

pub items-smaller : goal.items-smaller
items-smaller g c = let more = rw c.in-Some.is at c.in_ok-next.ensures.more in omega arith

pub returns-in_err-next-clause-ran : goal.returns-in_err-next-clause-ran
returns-in_err-next-clause-ran g c =
    let ran = rw c.items.invariant.who at c.in_err-next.ensures.ran in
    rw (err_is _ _ c.from_residual.ensures.1) (ran c.args.live _ _ c.items.invariant.reached.1).0

pub returns-in_default-clause-ran : goal.returns-in_default-clause-ran
returns-in_default-clause-ran g c =
    let ran = rw c.in_default.is at c.in_ok-next.ensures.ran in
    let step = rw c.items.invariant.who at ran in
    (step c.args.live _ _ c.items.invariant.reached.1).0

pub returns-in_err-hand_over-clause-ran : goal.returns-in_err-hand_over-clause-ran
returns-in_err-hand_over-clause-ran g c =
    let inv = c.items.invariant in
    let next = c.in_ok-next.ensures in
    let more = rw c.in-Some.is at next.more in
    let some : 0 < c.in-Some.next.passed + c.in-Some.next.refused = omega (arith, more.1) in
    let ran = rw c.in-Some.is at next.ran in
    let step = rw inv.who at ran in
    let over = c.in_err-hand_over.ensures in
    let far = step true _ _ inv.reached.1 in
    rw (err_is _ _ c.from_residual-in_err-hand_over.ensures.1, over.stops.0)
    (answer_unflushed _ _ c.args.live _ _ _ _ _ over.stops.1 some (reached_flushed _ _ _ _ _ _ _ far.1 refl over.noted over.written refl refl)).0
