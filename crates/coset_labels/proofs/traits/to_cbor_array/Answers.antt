use Rattle.std.proofs.Common.{refl, sym, ap, map, Some}
use Rattle.std.proofs.lemmas.Iterator.Consumers.{YieldsList-turn}
use Rattle.std.proofs.lemmas.Result.{err_from_is_err_and}
use Rattle.ciborium_value.specs.View.{view}
use Rattle.coset_labels.proofs.Arrays.{written_pushed, cant_all}
use Rattle.coset_labels.proofs.Loops.{vec_yields, turned, moved}
use Rattle.coset_labels.proofs.traits.to_cbor_array.Goals as goal

pub items-init : goal.items-init
items-init g c = record { front = (c.args.items.items, refl); done = ap (λ z. Some (map view z)) (sym c.in_ok-values.ensures.items) }

pub items-preserved : goal.items-preserved
items-preserved g c =
    let turn = turned c.args.items.items c.items.yielded c.in-Some.item c.items.invariant.front (YieldsList-turn (vec_yields c.into_iter-item-iterator.result c.args.items c.into_iter-item-iterator.ensures.into_iter_gives.0 c.into_iter-item-iterator.ensures.into_iter_gives.1) c.items.yielded c.items.item-iterator c.items.yielded_by c.next.result c.next.new.self c.in-Some.item c.in-Some.is c.next.ensures.steps) in
    record {
      front = moved _ c.items.yielded c.in-Some.item turn;
      done = written_pushed g.T.AsCborValue.written g.T.AsCborValue.fields c.items.yielded c.in-Some.item c.items.values.items _ _ c.in_ok-push.ensures.items c.items.invariant.done c.in_ok-to_cbor_value.ensures;
    }

pub returns-in_err-to_cbor_value : goal.returns-in_err-to_cbor_value
returns-in_err-to_cbor_value g c =
    let p = err_from_is_err_and c.from_residual-in_err-to_cbor_value.result c.from_residual-in_err-to_cbor_value.ensures.1 in
    let turn = turned c.args.items.items c.items.yielded c.in-Some.item c.items.invariant.front (YieldsList-turn (vec_yields c.into_iter-item-iterator.result c.args.items c.into_iter-item-iterator.ensures.into_iter_gives.0 c.into_iter-item-iterator.ensures.into_iter_gives.1) c.items.yielded c.items.item-iterator c.items.yielded_by c.next.result c.next.new.self c.in-Some.item c.in-Some.is c.next.ensures.steps) in
    rw (p.1, p.2) (cant_all g.T.AsCborValue.written g.T.AsCborValue.fields c.args.items.items c.items.yielded turn.0 c.in-Some.item _ turn.1 c.in_err-to_cbor_value.ensures)
