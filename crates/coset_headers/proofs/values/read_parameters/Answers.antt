use Rattle.std.proofs.lemmas.Result.{err_from_is_err_and}
use Rattle.std.proofs.lemmas.Iterator.Consumers.{YieldsList-turn}
use Rattle.cose_iana.specs.Headers.{header_parameters}
use Rattle.coset_labels.specs.View.{named_view}
use Rattle.coset_labels.proofs.Loops.{vec_yields, turned, moved}
use Rattle.coset_headers.proofs.Names.{names_pushed, crit_more}
use Rattle.coset_headers.proofs.values.read_parameters.Goals as goal

pub returns-in_err-name : goal.returns-in_err-name
returns-in_err-name c =
    let p = err_from_is_err_and c.from_residual-in_err-name.result c.from_residual-in_err-name.ensures.1 in
    let turn = turned c.args.items.items c.names.yielded c.in-Some.item c.names.invariant.front (YieldsList-turn (vec_yields c.into_iter-item-iterator.result c.args.items c.into_iter-item-iterator.ensures.into_iter_gives.0 c.into_iter-item-iterator.ensures.into_iter_gives.1) c.names.yielded c.names.item-iterator c.names.yielded_by c.next.result c.next.new.self c.in-Some.item c.in-Some.is c.next.ensures.steps) in
    rw (p.1, p.2) (crit_more c.args.items.items c.names.yielded turn.0 c.in-Some.item _ turn.1 c.in_err-name.ensures)

pub names-preserved : goal.names-preserved
names-preserved c =
    let turn = turned c.args.items.items c.names.yielded c.in-Some.item c.names.invariant.front (YieldsList-turn (vec_yields c.into_iter-item-iterator.result c.args.items c.into_iter-item-iterator.ensures.into_iter_gives.0 c.into_iter-item-iterator.ensures.into_iter_gives.1) c.names.yielded c.names.item-iterator c.names.yielded_by c.next.result c.next.new.self c.in-Some.item c.in-Some.is c.next.ensures.steps) in
    record {
      front = moved _ c.names.yielded c.in-Some.item turn;
      done = names_pushed c.names.yielded c.in-Some.item c.names.names.items _ (named_view header_parameters.number) c.in_ok-name.name c.in_ok-push.ensures.items c.names.invariant.done c.in_ok-name.ensures;
    }
