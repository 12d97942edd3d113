use Rattle.std.proofs.Common.{ap}
use Rattle.std.proofs.lemmas.Result.{err_from_is_err_and}
use Rattle.ciborium_value.specs.View.{views}
use Rattle.coset_kdf.proofs.Steps.{party_kind, party_count, party_other, party_nonce, party_identity}
use Rattle.coset_kdf.proofs.reader.read_party.Goals as goal

pub returns-in_err-items : goal.returns-in_err-items
returns-in_err-items c =
    let p = err_from_is_err_and c.from_residual.result c.from_residual.ensures.1 in
    rw (p.1, p.2) (party_kind _ _ c.in_err-items.ensures)

pub returns-in_default : goal.returns-in_default
returns-in_default c = party_count _ c.in_ok-items.items.items c.in_ok-items.ensures c.in_default.ensures

pub returns-in_err-other : goal.returns-in_err-other
returns-in_err-other c =
    let p = err_from_is_err_and c.from_residual-in_err-other.result c.from_residual-in_err-other.ensures.1 in
    rw (p.1, p.2) (party_other _ _ _ _ _ _ c.in_ok-items.ensures (ap views c.in-Some.ensures) c.in_err-other.ensures)

pub returns-in_err-nonce : goal.returns-in_err-nonce
returns-in_err-nonce c =
    let p = err_from_is_err_and c.from_residual-in_err-nonce.result c.from_residual-in_err-nonce.ensures.1 in
    rw (p.1, p.2) (party_nonce _ _ _ _ _ _ c.in_ok-items.ensures (ap views c.in-Some.ensures) c.in_err-nonce.ensures)

pub returns-in_err-identity : goal.returns-in_err-identity
returns-in_err-identity c =
    let p = err_from_is_err_and c.from_residual-in_err-identity.result c.from_residual-in_err-identity.ensures.1 in
    rw (p.1, p.2) (party_identity _ _ _ _ _ _ c.in_ok-items.ensures (ap views c.in-Some.ensures) c.in_err-identity.ensures)
