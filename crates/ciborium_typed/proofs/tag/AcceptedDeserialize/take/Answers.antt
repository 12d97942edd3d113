use Rattle.std.proofs.Common.{arith}
use Rattle.std.proofs.lemmas.Result.{err_from_is_err_and}
use Rattle.ciborium_value.specs.View.{view}
use Rattle.ciborium_traits.proofs.Items.{same_refusal}
use Rattle.ciborium_typed.proofs.Tagged.{accepted_at, accepted_other, untagged_seen}
use Rattle.ciborium_typed.proofs.tag.AcceptedDeserialize.take.Goals as goal

pub returns-in_err-take-in-Tag-clause-err : goal.returns-in_err-take-in-Tag-clause-err
returns-in_err-take-in-Tag-clause-err g c =
    let p = err_from_is_err_and c.from_residual.result c.from_residual.ensures.1 in
    rw (p.1, p.2) (same_refusal g.V.Deserialize.grows _ _ _ (accepted_at g.V.Deserialize.refusal c.args.value c.in-Tag.tag g.row.TAG c.in-Tag.content _ c.in-Tag.is c.into_inner.ensures (omega (arith, c.if-tag.false))) c.in_err-take-in-Tag.ensures.err)

pub returns-in_err-take-in_default : goal.returns-in_err-take-in_default
returns-in_err-take-in_default g c =
    let p = err_from_is_err_and c.from_residual-in_err-take-in_default.result c.from_residual-in_err-take-in_default.ensures.1 in
    rw (p.1, p.2) (record {
      ok = tt;
      err = same_refusal g.V.Deserialize.grows _ _ _ (accepted_other g.V.Deserialize.refusal (view c.args.value) g.row.TAG (untagged_seen c.args.value c.in_default.not-Tag)) c.in_err-take-in_default.ensures.err;
    })
