use Rattle.std.proofs.Common.{inr, [], refl, ap}
use Rattle.std.proofs.lemmas.Result.{err_from_is_err_and}
use Rattle.ciborium_value.specs.View.{views}
use Rattle.coset_recipients.proofs.PartsSteps.{whole_kind, whole_count, whole_parts, whole_has}
use Rattle.coset_encrypted.proofs.encrypt0.CoseEncrypt0.from_cbor_value_with.Goals as goal

pub returns-in_err-items : goal.returns-in_err-items
returns-in_err-items c =
    let p = err_from_is_err_and c.from_residual.result c.from_residual.ensures.1 in
    rw (p.1, p.2) (whole_kind _ _ _ _ _ c.in_err-items.ensures)

pub returns-in_err-parts-in-Some : goal.returns-in_err-parts-in-Some
returns-in_err-parts-in-Some c =
    let p = err_from_is_err_and c.from_residual-in_err-parts-in-Some.result c.from_residual-in_err-parts-in-Some.ensures.1 in
    rw (p.1, p.2) (whole_parts _ _ _ _ _ _ _ [] _ _ c.in_ok-items.ensures (ap views c.in-Some.ensures) refl c.in_err-parts-in-Some.ensures)

pub returns-in_ok-parts-in-Some : goal.returns-in_ok-parts-in-Some
returns-in_ok-parts-in-Some c = whole_has _ _ _ _ _ _ _ _ _ _ [] _ c.in_ok-items.ensures (ap views c.in-Some.ensures) c.in_ok-parts-in-Some.ensures tt

pub returns-in-None : goal.returns-in-None
returns-in-None c = inr (whole_count _ _ _ _ _ c.in_ok-items.ensures c.in-None.ensures)
