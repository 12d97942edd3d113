use Rattle.std.proofs.Common.{refl, sym, ap, subst, map, ◌∙◌, inr, []}
use Rattle.std.proofs.lemmas.Iterator.Consumers.{YieldsList-turn, YieldsList-end}
use Rattle.std.proofs.lemmas.Result.{err_from_is_err_and}
use Rattle.cose_iana.specs.Keys.{key_operations}
use Rattle.ciborium_value.specs.Tree.{array}
use Rattle.ciborium_value.specs.View.{views}
use Rattle.coset_labels.specs.Orders.{named_cmp}
use Rattle.coset_labels.specs.View.{registered_view}
use Rattle.coset_labels.proofs.Loops.{vec_yields, turned, moved}
use Rattle.coset_keys.proofs.Collected.{any_added, any_again}
use Rattle.coset_keys.proofs.Copied.{same_list}
use Rattle.coset_keys.proofs.Rising.{map_inserted, map_rises}
use Rattle.coset_keys.proofs.Steps.{Listed, none_listed, listed_more, ops_done, ops_bad, ops_again}
use Rattle.coset_keys.proofs.operations.collect_operations.Goals as goal

pub items-init : goal.items-init
items-init c = record { front = (c.args.items.items, refl); done = subst (λ z. Listed (views []) (map (registered_view key_operations.number) z)) (sym c.new-operations.ensures.empty) none_listed }

pub returns-in_err-operation : goal.returns-in_err-operation
returns-in_err-operation c =
    let p = err_from_is_err_and c.from_residual.result c.from_residual.ensures.1 in
    let turn = turned c.args.items.items c.items.yielded c.in-Some.item c.items.invariant.front (YieldsList-turn (vec_yields c.into_iter-item-iterator.result c.args.items c.into_iter-item-iterator.ensures.into_iter_gives.0 c.into_iter-item-iterator.ensures.into_iter_gives.1) c.items.yielded c.items.item-iterator c.items.yielded_by c.next.result c.next.new.self c.in-Some.item c.in-Some.is c.next.ensures.steps) in
    rw (p.1, p.2) (ops_bad _ c.args.items.items c.items.yielded turn.0 c.in-Some.item _ refl turn.1 c.in_err-operation.ensures)

pub returns-then-not-fresh : goal.returns-then-not-fresh
returns-then-not-fresh c =
    let turn = turned c.args.items.items c.items.yielded c.in-Some.item c.items.invariant.front (YieldsList-turn (vec_yields c.into_iter-item-iterator.result c.args.items c.into_iter-item-iterator.ensures.into_iter_gives.0 c.into_iter-item-iterator.ensures.into_iter_gives.1) c.items.yielded c.items.item-iterator c.items.yielded_by c.next.result c.next.new.self c.in-Some.item c.in-Some.is c.next.ensures.steps) in
    inr (ops_again _ c.args.items.items c.items.yielded turn.0 c.in-Some.item _ (registered_view key_operations.number c.in_ok-operation.operation) refl turn.1 c.items.invariant.done c.in_ok-operation.ensures
    (any_again (registered_view key_operations.number) c.in_ok-operation.operation c.items.operations.keys _ c.in_ok-fresh.ensures.added c.if-not-fresh.true))

pub items-preserved : goal.items-preserved
items-preserved c =
    let turn = turned c.args.items.items c.items.yielded c.in-Some.item c.items.invariant.front (YieldsList-turn (vec_yields c.into_iter-item-iterator.result c.args.items c.into_iter-item-iterator.ensures.into_iter_gives.0 c.into_iter-item-iterator.ensures.into_iter_gives.1) c.items.yielded c.items.item-iterator c.items.yielded_by c.next.result c.next.new.self c.in-Some.item c.in-Some.is c.next.ensures.steps) in
    record {
      front = moved _ c.items.yielded c.in-Some.item turn;
      done = listed_more c.items.yielded c.in-Some.item _ _ (registered_view key_operations.number c.in_ok-operation.operation) c.items.invariant.done c.in_ok-operation.ensures
          (any_added (registered_view key_operations.number) c.in_ok-operation.operation c.items.operations.keys _ c.in_ok-fresh.ensures.added c.if-not-fresh.false)
          (ap (map (registered_view key_operations.number)) c.in_ok-fresh.ensures.keys ∙ map_inserted (registered_view key_operations.number) named_cmp c.in_ok-operation.operation c.items.operations.keys)
          (map_rises (registered_view key_operations.number) named_cmp _ c.in_ok-fresh.ensures.ordered);
    }

pub returns : goal.returns
returns c =
    let end = YieldsList-end (vec_yields c.into_iter-item-iterator.result c.args.items c.into_iter-item-iterator.ensures.into_iter_gives.0 c.into_iter-item-iterator.ensures.into_iter_gives.1) c.items.yielded c.items.item-iterator c.items.yielded_by c.next.result c.next.new.self c.in-None.is c.next.ensures.steps in
    let all = same_list c.items.yielded c.args.items.items end.0 in
    ops_done _ c.items.yielded _ (ap (λ z. array (views z)) (sym all)) (λ e. c.requires (sym all ∙ e)) c.items.invariant.done
