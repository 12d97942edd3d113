use Rattle.std.proofs.Common.{arith}
use Rattle.std.proofs.lemmas.Result.{err_from_is_err_and}
use Rattle.ciborium_traits.proofs.Items.{same_refusal}
use Rattle.ciborium_typed.proofs.Tagged.{required_at}
use Rattle.ciborium_typed.proofs.tag.RequiredDeserialize.take.Goals as goal

pub returns-in_err-take-in-Tag-clause-err : goal.returns-in_err-take-in-Tag-clause-err
returns-in_err-take-in-Tag-clause-err g c =
    let p = err_from_is_err_and c.from_residual.result c.from_residual.ensures.1 in
    rw (p.1, p.2) (same_refusal g.V.Deserialize.grows _ _ _ (required_at g.V.Deserialize.refusal c.args.value c.in-Tag.tag g.row.TAG c.in-Tag.content _ c.in-Tag.is c.into_inner.ensures (omega (arith, c.if-tag.false))) c.in_err-take-in-Tag.ensures.err)
