use Rattle.std.proofs.lemmas.Iterator.Consumers.{YieldsList-turn}
use Rattle.std.proofs.lemmas.Result.{err_from_is_err_and}
use Rattle.coset_labels.proofs.Loops.{vec_yields, turned, moved}
use Rattle.coset_labels.specs.Facts.Walks.{item_at_fault}
use Rattle.coset_keys.specs.Wrong.{WrongKey}
use Rattle.coset_keys.proofs.Steps.{keys_pushed}
use Rattle.coset_keys.proofs.reader.read_keys.Goals as goal

pub items-preserved : goal.items-preserved
items-preserved c =
    let turn = turned c.args.items.items c.items.yielded c.in-Some.item c.items.invariant.front (YieldsList-turn (vec_yields c.into_iter-item-iterator.result c.args.items c.into_iter-item-iterator.ensures.into_iter_gives.0 c.into_iter-item-iterator.ensures.into_iter_gives.1) c.items.yielded c.items.item-iterator c.items.yielded_by c.next.result c.next.new.self c.in-Some.item c.in-Some.is c.next.ensures.steps) in
    record {
      front = moved _ c.items.yielded c.in-Some.item turn;
      done = keys_pushed c.items.yielded c.in-Some.item _ _ c.in_ok-key.key c.in_ok-push.ensures.items c.items.invariant.done c.in_ok-key.ensures;
    }

pub returns-in_err-key : goal.returns-in_err-key
returns-in_err-key c =
    let p = err_from_is_err_and c.from_residual.result c.from_residual.ensures.1 in
    let turn = turned c.args.items.items c.items.yielded c.in-Some.item c.items.invariant.front (YieldsList-turn (vec_yields c.into_iter-item-iterator.result c.args.items c.into_iter-item-iterator.ensures.into_iter_gives.0 c.into_iter-item-iterator.ensures.into_iter_gives.1) c.items.yielded c.items.item-iterator c.items.yielded_by c.next.result c.next.new.self c.in-Some.item c.in-Some.is c.next.ensures.steps) in
    rw (p.1, p.2) (item_at_fault WrongKey c.args.items.items c.items.yielded turn.0 c.in-Some.item _ turn.1 c.in_err-key.ensures)
