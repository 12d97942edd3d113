use Rattle.std.proofs.lemmas.Iterator.Consumers.{YieldsList-turn}
use Rattle.std.proofs.lemmas.Result.{err_from_is_err_and}
use Rattle.coset_labels.proofs.Loops.{vec_yields, turned, moved}
use Rattle.coset_labels.specs.Facts.Walks.{item_at_fault}
use Rattle.coset_labels.specs.Limits.{nesting_of, layers_of}
use Rattle.coset_headers.proofs.Steps.{sigs_pushed}
use Rattle.coset_signed.specs.Wrong.{IsNoSignature}
use Rattle.coset_signed.proofs.sign_serial.read_list.Goals as goal

pub items-preserved : goal.items-preserved
items-preserved c =
    let turn = turned c.args.items.items c.items.yielded c.in-Some.item c.items.invariant.front (YieldsList-turn (vec_yields c.into_iter-item-iterator.result c.args.items c.into_iter-item-iterator.ensures.into_iter_gives.0 c.into_iter-item-iterator.ensures.into_iter_gives.1) c.items.yielded c.items.item-iterator c.items.yielded_by c.next.result c.next.new.self c.in-Some.item c.in-Some.is c.next.ensures.steps) in
    record {
      front = moved _ c.items.yielded c.in-Some.item turn;
      done = sigs_pushed (nesting_of c.args.limits) c.items.yielded c.in-Some.item _ _ c.in_ok-signature.signature (layers_of c.args.limits) c.in_ok-push.ensures.items c.items.invariant.done c.in_ok-signature.ensures;
    }

pub returns-in_err-signature : goal.returns-in_err-signature
returns-in_err-signature c =
    let p = err_from_is_err_and c.from_residual.result c.from_residual.ensures.1 in
    let turn = turned c.args.items.items c.items.yielded c.in-Some.item c.items.invariant.front (YieldsList-turn (vec_yields c.into_iter-item-iterator.result c.args.items c.into_iter-item-iterator.ensures.into_iter_gives.0 c.into_iter-item-iterator.ensures.into_iter_gives.1) c.items.yielded c.items.item-iterator c.items.yielded_by c.next.result c.next.new.self c.in-Some.item c.in-Some.is c.next.ensures.steps) in
    rw (p.1, p.2) (item_at_fault (λ t. IsNoSignature (nesting_of c.args.limits) t (layers_of c.args.limits)) c.args.items.items c.items.yielded turn.0 c.in-Some.item _ turn.1 c.in_err-signature.ensures)
