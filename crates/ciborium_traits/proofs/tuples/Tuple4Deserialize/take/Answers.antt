use Rattle.std.proofs.Common.{◌||◌, [], ◌∷◌, sym, ◌∙◌}
use Rattle.std.proofs.lemmas.Result.{err_from_is_err_and}
use Rattle.std.specs.Vec.Iter.{into_iter_items}
use Rattle.ciborium_traits.proofs.Items.{grows_first, grows_then, same_refusal, tuple_begun, turn_refused, turn_taken}
use Rattle.ciborium_traits.proofs.tuples.Tuple4Deserialize.take.Goals as goal

pub returns-in_err-a-clause-err : goal.returns-in_err-a-clause-err
returns-in_err-a-clause-err g c =
    let p = err_from_is_err_and c.from_residual-in_err-a.result c.from_residual-in_err-a.ensures.1 in
    let i = c.in_ok-items.ensures.ok in
    let r0 = tuple_begun (g.A.Deserialize.refusal ∷ g.B.Deserialize.refusal ∷ g.C.Deserialize.refusal ∷ g.D.Deserialize.refusal ∷ []) _ (into_iter_items c.in_ok-items.items) i.0 (sym c.in_ok-items.items.rest.ok.0 ∙ i.1) in
    let f = c.in_err-a.ensures.err in
    rw (p.1, p.2) (same_refusal (g.A.Deserialize.grows || (g.B.Deserialize.grows || (g.C.Deserialize.grows || g.D.Deserialize.grows))) _ _ _ r0 (turn_refused g.A.Deserialize.grows (g.A.Deserialize.grows || (g.B.Deserialize.grows || (g.C.Deserialize.grows || g.D.Deserialize.grows))) g.A.Deserialize.refusal (g.B.Deserialize.refusal ∷ g.C.Deserialize.refusal ∷ g.D.Deserialize.refusal ∷ []) _ f.1 f.0 _ (λ h. grows_first g.A.Deserialize.grows (g.B.Deserialize.grows || (g.C.Deserialize.grows || g.D.Deserialize.grows)) h) f.2 f.3))

pub returns-in_err-b-clause-err : goal.returns-in_err-b-clause-err
returns-in_err-b-clause-err g c =
    let p = err_from_is_err_and c.from_residual-in_err-b.result c.from_residual-in_err-b.ensures.1 in
    let i = c.in_ok-items.ensures.ok in
    let r0 = tuple_begun (g.A.Deserialize.refusal ∷ g.B.Deserialize.refusal ∷ g.C.Deserialize.refusal ∷ g.D.Deserialize.refusal ∷ []) _ (into_iter_items c.in_ok-items.items) i.0 (sym c.in_ok-items.items.rest.ok.0 ∙ i.1) in
    let o1 = c.in_ok-a.ensures.ok in
    let r1 = r0 ∙ turn_taken g.A.Deserialize.refusal (g.B.Deserialize.refusal ∷ g.C.Deserialize.refusal ∷ g.D.Deserialize.refusal ∷ []) _ _ o1.0 o1.1 o1.2 in
    let f = c.in_err-b.ensures.err in
    rw (p.1, p.2) (same_refusal (g.A.Deserialize.grows || (g.B.Deserialize.grows || (g.C.Deserialize.grows || g.D.Deserialize.grows))) _ _ _ r1 (turn_refused g.B.Deserialize.grows (g.A.Deserialize.grows || (g.B.Deserialize.grows || (g.C.Deserialize.grows || g.D.Deserialize.grows))) g.B.Deserialize.refusal (g.C.Deserialize.refusal ∷ g.D.Deserialize.refusal ∷ []) _ f.1 f.0 _ (λ h. grows_then g.A.Deserialize.grows (g.B.Deserialize.grows || (g.C.Deserialize.grows || g.D.Deserialize.grows)) (grows_first g.B.Deserialize.grows (g.C.Deserialize.grows || g.D.Deserialize.grows) h)) f.2 f.3))

pub returns-in_err-c-clause-err : goal.returns-in_err-c-clause-err
returns-in_err-c-clause-err g c =
    let p = err_from_is_err_and c.from_residual-in_err-c.result c.from_residual-in_err-c.ensures.1 in
    let i = c.in_ok-items.ensures.ok in
    let r0 = tuple_begun (g.A.Deserialize.refusal ∷ g.B.Deserialize.refusal ∷ g.C.Deserialize.refusal ∷ g.D.Deserialize.refusal ∷ []) _ (into_iter_items c.in_ok-items.items) i.0 (sym c.in_ok-items.items.rest.ok.0 ∙ i.1) in
    let o1 = c.in_ok-a.ensures.ok in
    let r1 = r0 ∙ turn_taken g.A.Deserialize.refusal (g.B.Deserialize.refusal ∷ g.C.Deserialize.refusal ∷ g.D.Deserialize.refusal ∷ []) _ _ o1.0 o1.1 o1.2 in
    let o2 = c.in_ok-b.ensures.ok in
    let r2 = r1 ∙ turn_taken g.B.Deserialize.refusal (g.C.Deserialize.refusal ∷ g.D.Deserialize.refusal ∷ []) _ _ o2.0 o2.1 o2.2 in
    let f = c.in_err-c.ensures.err in
    rw (p.1, p.2) (same_refusal (g.A.Deserialize.grows || (g.B.Deserialize.grows || (g.C.Deserialize.grows || g.D.Deserialize.grows))) _ _ _ r2 (turn_refused g.C.Deserialize.grows (g.A.Deserialize.grows || (g.B.Deserialize.grows || (g.C.Deserialize.grows || g.D.Deserialize.grows))) g.C.Deserialize.refusal (g.D.Deserialize.refusal ∷ []) _ f.1 f.0 _ (λ h. grows_then g.A.Deserialize.grows (g.B.Deserialize.grows || (g.C.Deserialize.grows || g.D.Deserialize.grows)) (grows_then g.B.Deserialize.grows (g.C.Deserialize.grows || g.D.Deserialize.grows) (grows_first g.C.Deserialize.grows g.D.Deserialize.grows h))) f.2 f.3))

pub returns-in_err-d-clause-err : goal.returns-in_err-d-clause-err
returns-in_err-d-clause-err g c =
    let p = err_from_is_err_and c.from_residual-in_err-d.result c.from_residual-in_err-d.ensures.1 in
    let i = c.in_ok-items.ensures.ok in
    let r0 = tuple_begun (g.A.Deserialize.refusal ∷ g.B.Deserialize.refusal ∷ g.C.Deserialize.refusal ∷ g.D.Deserialize.refusal ∷ []) _ (into_iter_items c.in_ok-items.items) i.0 (sym c.in_ok-items.items.rest.ok.0 ∙ i.1) in
    let o1 = c.in_ok-a.ensures.ok in
    let r1 = r0 ∙ turn_taken g.A.Deserialize.refusal (g.B.Deserialize.refusal ∷ g.C.Deserialize.refusal ∷ g.D.Deserialize.refusal ∷ []) _ _ o1.0 o1.1 o1.2 in
    let o2 = c.in_ok-b.ensures.ok in
    let r2 = r1 ∙ turn_taken g.B.Deserialize.refusal (g.C.Deserialize.refusal ∷ g.D.Deserialize.refusal ∷ []) _ _ o2.0 o2.1 o2.2 in
    let o3 = c.in_ok-c.ensures.ok in
    let r3 = r2 ∙ turn_taken g.C.Deserialize.refusal (g.D.Deserialize.refusal ∷ []) _ _ o3.0 o3.1 o3.2 in
    let f = c.in_err-d.ensures.err in
    rw (p.1, p.2) (same_refusal (g.A.Deserialize.grows || (g.B.Deserialize.grows || (g.C.Deserialize.grows || g.D.Deserialize.grows))) _ _ _ r3 (turn_refused g.D.Deserialize.grows (g.A.Deserialize.grows || (g.B.Deserialize.grows || (g.C.Deserialize.grows || g.D.Deserialize.grows))) g.D.Deserialize.refusal [] _ f.1 f.0 _ (λ h. grows_then g.A.Deserialize.grows (g.B.Deserialize.grows || (g.C.Deserialize.grows || g.D.Deserialize.grows)) (grows_then g.B.Deserialize.grows (g.C.Deserialize.grows || g.D.Deserialize.grows) (grows_then g.C.Deserialize.grows g.D.Deserialize.grows h))) f.2 f.3))
