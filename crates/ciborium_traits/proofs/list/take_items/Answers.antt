use Rattle.std.proofs.Common.{List, sym, subst, ◌∙◌}
use Rattle.std.proofs.lemmas.Result.{err_from_is_err_and}
use Rattle.ciborium_traits.proofs.Items.{TakenTo, taken_none, taken_one, taken_refused, taken_all}
use Rattle.ciborium_traits.proofs.list.take_items.Goals as goal

pub loop-item-init : goal.loop-item-init
loop-item-init g c =
    subst (λ (z : List g.row.T.Denot). TakenTo g.T.Deserialize.refusal g.T.Deserialize.takes c.args.items.items c.into_iter-item-iterator.result.rest.items z) (sym c.new-taken.ensures.items)
    (taken_none g.T.Deserialize.refusal g.T.Deserialize.takes _ _ c.into_iter-item-iterator.ensures.into_iter_gives.0)

pub loop-item-preserved : goal.loop-item-preserved
loop-item-preserved g c =
    taken_one g.T.Deserialize.refusal g.T.Deserialize.takes _ _ _ _ _ c.in-Some.item c.in_ok-x.x c.in-Some.ensures.steps.0 c.in_ok-push.ensures.items c.in_ok-x.ensures.ok.0 c.in_ok-x.ensures.ok.1 c.loop-item.invariant

pub returns-in_err-x-clause-err : goal.returns-in_err-x-clause-err
returns-in_err-x-clause-err g c =
    let p = err_from_is_err_and c.from_residual.result c.from_residual.ensures.1 in
    rw (p.1, p.2) (taken_refused g.T.Deserialize.refusal g.T.Deserialize.takes _ _ _ _ c.in-Some.item g.T.Deserialize.grows _ c.in-Some.ensures.steps.0 c.in_err-x.ensures.err c.loop-item.invariant)

pub returns-clause-ok : goal.returns-clause-ok
returns-clause-ok g c = taken_all g.T.Deserialize.refusal g.T.Deserialize.takes _ _ _ (sym c.loop-item.item-iterator.rest.ok.0 ∙ c.in-None.ensures.steps.0) c.loop-item.invariant
