use Rattle.std.proofs.Common.{[], ◌∷◌, sym, ◌∙◌}
use Rattle.std.proofs.lemmas.Result.{err_from_is_err_and}
use Rattle.std.specs.Vec.Iter.{into_iter_items}
use Rattle.ciborium_traits.proofs.Items.{same_refusal, tuple_begun, turn_refused}
use Rattle.ciborium_traits.proofs.tuples.Tuple1Deserialize.take.Goals as goal

pub returns-in_err-a-clause-err : goal.returns-in_err-a-clause-err
returns-in_err-a-clause-err g c =
    let p = err_from_is_err_and c.from_residual-in_err-a.result c.from_residual-in_err-a.ensures.1 in
    let i = c.in_ok-items.ensures.ok in
    let r0 = tuple_begun (g.A.Deserialize.refusal ∷ []) _ (into_iter_items c.in_ok-items.items) i.0 (sym c.in_ok-items.items.rest.ok.0 ∙ i.1) in
    let f = c.in_err-a.ensures.err in
    rw (p.1, p.2) (same_refusal g.A.Deserialize.grows _ _ _ r0 (turn_refused g.A.Deserialize.grows g.A.Deserialize.grows g.A.Deserialize.refusal [] _ f.1 f.0 _ (λ h. h) f.2 f.3))
