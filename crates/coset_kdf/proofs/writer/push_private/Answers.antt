use Rattle.std.proofs.Common.{refl, sym, append-nil}
use Rattle.std.proofs.lemmas.Iterator.Consumers.{YieldsList-turn}
use Rattle.coset_labels.proofs.Loops.{vec_yields, turned, moved}
use Rattle.coset_kdf.proofs.Pushed.{private_pushed}
use Rattle.coset_kdf.proofs.writer.push_private.Goals as goal

pub private-init : goal.private-init
private-init c = record { front = (c.args.private.items, refl); done = sym (append-nil _) }

pub private-preserved : goal.private-preserved
private-preserved c =
    let turn = turned c.args.private.items c.private.yielded c.in-Some.bytes c.private.invariant.front (YieldsList-turn (vec_yields c.into_iter-bytes-iterator.result c.args.private c.into_iter-bytes-iterator.ensures.into_iter_gives.0 c.into_iter-bytes-iterator.ensures.into_iter_gives.1) c.private.yielded c.private.bytes-iterator c.private.yielded_by c.next.result c.next.new.self c.in-Some.bytes c.in-Some.is c.next.ensures.steps) in
    record {
      front = moved _ c.private.yielded c.in-Some.bytes turn;
      done = private_pushed _ _ _ c.private.yielded c.in-Some.bytes c.in_ok-push.ensures.items c.private.invariant.done;
    }
