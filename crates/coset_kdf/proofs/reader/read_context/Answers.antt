use Rattle.std.proofs.Common.{inr, ap}
use Rattle.std.proofs.lemmas.Result.{err_from_is_err_and}
use Rattle.ciborium_value.specs.View.{views}
use Rattle.coset_kdf.proofs.Steps.{context_kind, context_few, context_private, context_whole, context_public, context_party_v, context_party_u, context_algorithm}
use Rattle.coset_kdf.proofs.reader.read_context.Goals as goal

pub returns-in_err-items : goal.returns-in_err-items
returns-in_err-items c =
    let p = err_from_is_err_and c.from_residual.result c.from_residual.ensures.1 in
    rw (p.1, p.2) (context_kind _ _ _ _ c.in_err-items.ensures)

pub returns-in_err-supp_priv_info : goal.returns-in_err-supp_priv_info
returns-in_err-supp_priv_info c =
    let p = err_from_is_err_and c.from_residual-in_err-supp_priv_info.result c.from_residual-in_err-supp_priv_info.ensures.1 in
    rw (p.1, p.2) (context_private _ _ _ c.in_ok-items.items.items _ c.in_ok-items.ensures c.in_err-supp_priv_info.ensures)

pub returns-in_default : goal.returns-in_default
returns-in_default c = inr (context_few _ _ _ c.in_ok-items.items.items _ _ c.in_ok-items.ensures c.in_ok-supp_priv_info.ensures c.in_default.ensures)

pub returns-in_err-supp_pub_info : goal.returns-in_err-supp_pub_info
returns-in_err-supp_pub_info c =
    let p = err_from_is_err_and c.from_residual-in_err-supp_pub_info.result c.from_residual-in_err-supp_pub_info.ensures.1 in
    rw (p.1, p.2) (context_public _ _ _ _ _ c.in_ok-items.items.items _ _ c.in_ok-items.ensures c.in_ok-supp_priv_info.ensures (ap views c.in-Some.ensures) _ _ _ c.in_err-supp_pub_info.ensures)

pub returns-in_err-party_v_info : goal.returns-in_err-party_v_info
returns-in_err-party_v_info c =
    let p = err_from_is_err_and c.from_residual-in_err-party_v_info.result c.from_residual-in_err-party_v_info.ensures.1 in
    rw (p.1, p.2) (context_party_v _ _ _ _ _ c.in_ok-items.items.items _ _ c.in_ok-items.ensures c.in_ok-supp_priv_info.ensures (ap views c.in-Some.ensures) _ _ _ c.in_err-party_v_info.ensures)

pub returns-in_err-party_u_info : goal.returns-in_err-party_u_info
returns-in_err-party_u_info c =
    let p = err_from_is_err_and c.from_residual-in_err-party_u_info.result c.from_residual-in_err-party_u_info.ensures.1 in
    rw (p.1, p.2) (context_party_u _ _ _ _ _ c.in_ok-items.items.items _ _ c.in_ok-items.ensures c.in_ok-supp_priv_info.ensures (ap views c.in-Some.ensures) _ _ _ c.in_err-party_u_info.ensures)

pub returns-in_err-algorithm_id : goal.returns-in_err-algorithm_id
returns-in_err-algorithm_id c =
    let p = err_from_is_err_and c.from_residual-in_err-algorithm_id.result c.from_residual-in_err-algorithm_id.ensures.1 in
    rw (p.1, p.2) (context_algorithm _ _ _ _ _ c.in_ok-items.items.items _ _ c.in_ok-items.ensures c.in_ok-supp_priv_info.ensures (ap views c.in-Some.ensures) _ _ _ c.in_err-algorithm_id.ensures)

pub returns : goal.returns
returns c =
    (_, _, _, _, context_whole _ _ _ _ _ c.in_ok-items.items.items _ _ c.in_ok-items.ensures c.in_ok-supp_priv_info.ensures (ap views c.in-Some.ensures), c.in_ok-algorithm_id.ensures, c.in_ok-party_u_info.ensures, c.in_ok-party_v_info.ensures, c.in_ok-supp_pub_info.ensures)
