use Rattle.std.proofs.Common.{ap, map, sym, ◌++◌, ◌∙◌}
use Rattle.std.specs.Map.Iter.{deref}
use Rattle.std.proofs.lemmas.Map.Iter.{iter_end, rest_so_far, rest_more}
use Rattle.cose_iana.specs.Keys.{key_operations}
use Rattle.coset_labels.specs.View.{registered_view}
use Rattle.coset_keys.proofs.Copied.{copied_more}
use Rattle.coset_keys.proofs.copies.clone_operations.Goals as goal

pub operations-init : goal.operations-init
operations-init c = ap (map (registered_view key_operations.number)) c.new-copies.ensures.empty

pub operations-preserved : goal.operations-preserved
operations-preserved c =
    let given = c.into_iter-operation-iterator.ensures.into_iter_gives in
    let front = rest_so_far deref c.operations.yielded _ _ c.operations.yielded_by in
    let first = rest_more deref _ _ c.next.result c.in-Some.operation c.in-Some.is c.next.ensures.steps in
    copied_more (registered_view key_operations.number) _ _ c.operations.yielded c.in-Some.operation _ _ _ given.4 (sym given.0 ∙ front ∙ ap (λ z. map deref c.operations.yielded ++ z) first) c.operations.invariant c.in_ok-insert.ensures.keys c.in_ok-clone.ensures.ok

pub returns : goal.returns
returns c =
    let e = iter_end deref c.args.operations.now.keys c.operations.yielded _ _ _ c.next.result c.into_iter-operation-iterator.ensures.into_iter_gives.0 c.operations.yielded_by c.in-None.is c.next.ensures.steps in
    c.operations.invariant ∙ ap (map (registered_view key_operations.number)) e.0
