use Rattle.std.proofs.Common.{ap, map, ◌∙◌}
use Rattle.std.proofs.lemmas.Map.Iter.{iter_end}
use Rattle.cose_iana.specs.Keys.{key_operations}
use Rattle.ciborium_value.specs.View.{view}
use Rattle.coset_labels.specs.Labels.{named_tree}
use Rattle.coset_labels.specs.View.{registered_view}
use Rattle.coset_keys.proofs.Copied.{op_pushed, same_list}
use Rattle.coset_keys.proofs.writer.write_operations.Goals as goal

pub operations-init : goal.operations-init
operations-init c = ap (map view) c.in_ok-items.ensures.items

pub operations-preserved : goal.operations-preserved
operations-preserved c = op_pushed (registered_view key_operations.number) c.operations.yielded c.in-Some.operation _ _ _ c.in_ok-push.ensures.items c.operations.invariant c.in_ok-to_cbor_value.ensures

pub returns : goal.returns
returns c =
    let e = iter_end (λ x. x) c.args.operations.keys c.operations.yielded _ _ _ c.next.result c.into_iter-operation-iterator.ensures.into_iter_gives.0 c.operations.yielded_by c.in-None.is c.next.ensures.steps in
    c.operations.invariant ∙ ap (λ z. map named_tree (map (registered_view key_operations.number) z)) (same_list c.operations.yielded _ e.0)
