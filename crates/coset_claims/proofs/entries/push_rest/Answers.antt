use Rattle.std.proofs.Common.{refl, sym, append-nil}
use Rattle.std.proofs.lemmas.Iterator.Consumers.{YieldsList-turn}
use Rattle.coset_labels.proofs.Loops.{vec_yields, turned, moved}
use Rattle.coset_claims.proofs.Pushed.{rest_pushed}
use Rattle.coset_claims.proofs.entries.push_rest.Goals as goal

pub rest-init : goal.rest-init
rest-init c = record { front = (c.args.rest.items, refl); done = sym (append-nil _) }

pub rest-preserved : goal.rest-preserved
rest-preserved c =
    let turn = turned c.args.rest.items c.rest.yielded c.in-Some.entry c.rest.invariant.front (YieldsList-turn (vec_yields c.into_iter-entry-iterator.result c.args.rest c.into_iter-entry-iterator.ensures.into_iter_gives.0 c.into_iter-entry-iterator.ensures.into_iter_gives.1) c.rest.yielded c.rest.entry-iterator c.rest.yielded_by c.next.result c.next.new.self c.in-Some.entry c.in-Some.is c.next.ensures.steps) in
    record {
      front = moved _ c.rest.yielded c.in-Some.entry turn;
      done = rest_pushed _ _ _ c.rest.yielded c.in-Some.entry _ c.in_ok-push.ensures.items c.in_ok-name.ensures c.rest.invariant.done;
    }
