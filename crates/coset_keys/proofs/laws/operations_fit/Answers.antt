use Rattle.std.proofs.Common.{[], ◌∷◌, map, sym, ap, subst, ◌∙◌, arith}
use Rattle.std.specs.Map.Iter.{deref}
use Rattle.std.proofs.lemmas.List.{map-append}
use Rattle.std.proofs.lemmas.Map.Iter.{iter_end}
use Rattle.cose_iana.specs.Keys.{key_operations}
use Rattle.coset_labels.specs.View.{registered_view}
use Rattle.coset_keys.specs.Fitting.{NamesFit}
use Rattle.coset_keys.proofs.Fitting.{names_more}
use Rattle.coset_keys.proofs.laws.operations_fit.Goals as goal

pub operations-preserved : goal.operations-preserved
operations-preserved c =
    subst NamesFit (sym (ap (map (registered_view key_operations.number)) (map-append deref c.operations.yielded (c.in-Some.operation ∷ [])) ∙ map-append (registered_view key_operations.number) (map deref c.operations.yielded) (c.in-Some.operation.now ∷ [])))
    (names_more (map (registered_view key_operations.number) (map deref c.operations.yielded)) _ c.operations.invariant c.registered_fits.ensures)

pub returns : goal.returns
returns c =
    let e = iter_end deref c.args.operations.now.keys c.operations.yielded _ _ _ c.next.result c.into_iter-operation-iterator.ensures.into_iter_gives.0 c.operations.yielded_by c.in-None.is c.next.ensures.steps in
    let small = c.into_iter-operation-iterator.ensures.into_iter_gives.1 in
    record { names = subst (λ z. NamesFit (map (registered_view key_operations.number) z)) e.0 c.operations.invariant; short = omega (arith, small) }
