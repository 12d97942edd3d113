use Rattle.std.proofs.Common.{inr}
use Rattle.std.proofs.lemmas.Iterator.Consumers.{YieldsList-turn}
use Rattle.coset_labels.proofs.Loops.{vec_yields, turned, moved, gives_pushed}
use Rattle.coset_labels.proofs.kinds.convert_all.Goals as goal

pub items-preserved : goal.items-preserved
items-preserved g c =
    let turn = turned c.args.items.items c.items.yielded c.in-Some.item c.items.invariant.front (YieldsList-turn (vec_yields c.into_iter-item-iterator.result c.args.items c.into_iter-item-iterator.ensures.into_iter_gives.0 c.into_iter-item-iterator.ensures.into_iter_gives.1) c.items.yielded c.items.item-iterator c.items.yielded_by c.next.result c.next.new.self c.in-Some.item c.in-Some.is c.next.ensures.steps) in
    record {
      front = moved c.args.items.items c.items.yielded c.in-Some.item turn;
      given = gives_pushed (goal.F-post g c.args.f) c.items.yielded c.items.converted.items _ c.in-Some.item c.in-Ok.result c.in-Ok-push.ensures.items c.items.invariant.given c.in-Ok.ensures;
    }

pub returns-in-Err : goal.returns-in-Err
returns-in-Err g c =
    let turn = turned c.args.items.items c.items.yielded c.in-Some.item c.items.invariant.front (YieldsList-turn (vec_yields c.into_iter-item-iterator.result c.args.items c.into_iter-item-iterator.ensures.into_iter_gives.0 c.into_iter-item-iterator.ensures.into_iter_gives.1) c.items.yielded c.items.item-iterator c.items.yielded_by c.next.result c.next.new.self c.in-Some.item c.in-Some.is c.next.ensures.steps) in
    inr (record {
      before = c.items.yielded;
      after = turn.0;
      item = c.in-Some.item;
      results = c.items.converted.items;
      are = turn.1;
      given = c.items.invariant.given;
      fails = c.in-Err.ensures;
    })
