use Rattle.std.proofs.Common.{refl, ap, option_map, Some}
use Rattle.std.proofs.lemmas.Result.{err_from_is_err_and}
use Rattle.ciborium_value.specs.View.{view}
use Rattle.coset_claims.specs.Claims.{text_of, bytes_of}
use Rattle.coset_claims.specs.Steps.{fills_field}
use Rattle.coset_claims.specs.Wrong.{WrongTime, wrong_issuer, wrong_subject, wrong_audience, wrong_expiration_time, wrong_not_before, wrong_issued_at, wrong_cwt_id}
use Rattle.coset_claims.proofs.Steps.{field_fault, field_kind}
use Rattle.coset_claims.proofs.reader.fill.Goals as goal

pub returns-in_err-issuer-in-Issuer : goal.returns-in_err-issuer-in-Issuer
returns-in_err-issuer-in-Issuer c =
    let p = err_from_is_err_and c.from_residual.result c.from_residual.ensures.1 in
    rw (p.1, p.2) (field_kind _ _ _ _ (wrong_issuer c.in_err-issuer-in-Issuer.ensures.1) c.in-Issuer.ensures c.in_err-issuer-in-Issuer.ensures.0)

pub returns-in_err-subject-in-Subject : goal.returns-in_err-subject-in-Subject
returns-in_err-subject-in-Subject c =
    let p = err_from_is_err_and c.from_residual-in_err-subject-in-Subject.result c.from_residual-in_err-subject-in-Subject.ensures.1 in
    rw (p.1, p.2) (field_kind _ _ _ _ (wrong_subject c.in_err-subject-in-Subject.ensures.1) c.in-Subject.ensures c.in_err-subject-in-Subject.ensures.0)

pub returns-in_err-audience-in-Audience : goal.returns-in_err-audience-in-Audience
returns-in_err-audience-in-Audience c =
    let p = err_from_is_err_and c.from_residual-in_err-audience-in-Audience.result c.from_residual-in_err-audience-in-Audience.ensures.1 in
    rw (p.1, p.2) (field_kind _ _ _ _ (wrong_audience c.in_err-audience-in-Audience.ensures.1) c.in-Audience.ensures c.in_err-audience-in-Audience.ensures.0)

pub returns-in_err-time-in-ExpirationTime : goal.returns-in_err-time-in-ExpirationTime
returns-in_err-time-in-ExpirationTime c =
    let p = err_from_is_err_and c.from_residual-in_err-time-in-ExpirationTime.result c.from_residual-in_err-time-in-ExpirationTime.ensures.1 in
    rw (p.1, p.2) (field_fault (WrongTime (view c.args.value)) _ _ _ _ (λ f x. wrong_expiration_time f x) c.in-ExpirationTime.ensures c.in_err-time-in-ExpirationTime.ensures)

pub returns-in_err-time-in-NotBefore : goal.returns-in_err-time-in-NotBefore
returns-in_err-time-in-NotBefore c =
    let p = err_from_is_err_and c.from_residual-in_err-time-in-NotBefore.result c.from_residual-in_err-time-in-NotBefore.ensures.1 in
    rw (p.1, p.2) (field_fault (WrongTime (view c.args.value)) _ _ _ _ (λ f x. wrong_not_before f x) c.in-NotBefore.ensures c.in_err-time-in-NotBefore.ensures)

pub returns-in_err-time-in-IssuedAt : goal.returns-in_err-time-in-IssuedAt
returns-in_err-time-in-IssuedAt c =
    let p = err_from_is_err_and c.from_residual-in_err-time-in-IssuedAt.result c.from_residual-in_err-time-in-IssuedAt.ensures.1 in
    rw (p.1, p.2) (field_fault (WrongTime (view c.args.value)) _ _ _ _ (λ f x. wrong_issued_at f x) c.in-IssuedAt.ensures c.in_err-time-in-IssuedAt.ensures)

pub returns-in_err-cwt_id-in-CwtId : goal.returns-in_err-cwt_id-in-CwtId
returns-in_err-cwt_id-in-CwtId c =
    let p = err_from_is_err_and c.from_residual-in_err-cwt_id-in-CwtId.result c.from_residual-in_err-cwt_id-in-CwtId.ensures.1 in
    rw (p.1, p.2) (field_kind _ _ _ _ (wrong_cwt_id c.in_err-cwt_id-in-CwtId.ensures.1) c.in-CwtId.ensures c.in_err-cwt_id-in-CwtId.ensures.0)

pub returns-in_ok-issuer-in-Issuer : goal.returns-in_ok-issuer-in-Issuer
returns-in_ok-issuer-in-Issuer c = fills_field 1 c.in-Issuer.ensures refl (record { issuer = ap (λ t. option_map Some (text_of t)) c.in_ok-issuer-in-Issuer.ensures; subject = refl; audience = refl; expiration_time = refl; not_before = refl; issued_at = refl; cwt_id = refl; rest = refl })

pub returns-in_ok-subject-in-Subject : goal.returns-in_ok-subject-in-Subject
returns-in_ok-subject-in-Subject c = fills_field 2 c.in-Subject.ensures refl (record { issuer = refl; subject = ap (λ t. option_map Some (text_of t)) c.in_ok-subject-in-Subject.ensures; audience = refl; expiration_time = refl; not_before = refl; issued_at = refl; cwt_id = refl; rest = refl })

pub returns-in_ok-audience-in-Audience : goal.returns-in_ok-audience-in-Audience
returns-in_ok-audience-in-Audience c = fills_field 3 c.in-Audience.ensures refl (record { issuer = refl; subject = refl; audience = ap (λ t. option_map Some (text_of t)) c.in_ok-audience-in-Audience.ensures; expiration_time = refl; not_before = refl; issued_at = refl; cwt_id = refl; rest = refl })

pub returns-in_ok-time-in-ExpirationTime : goal.returns-in_ok-time-in-ExpirationTime
returns-in_ok-time-in-ExpirationTime c = fills_field 4 c.in-ExpirationTime.ensures refl (record { issuer = refl; subject = refl; audience = refl; expiration_time = ap (option_map Some) c.in_ok-time-in-ExpirationTime.ensures; not_before = refl; issued_at = refl; cwt_id = refl; rest = refl })

pub returns-in_ok-time-in-NotBefore : goal.returns-in_ok-time-in-NotBefore
returns-in_ok-time-in-NotBefore c = fills_field 5 c.in-NotBefore.ensures refl (record { issuer = refl; subject = refl; audience = refl; expiration_time = refl; not_before = ap (option_map Some) c.in_ok-time-in-NotBefore.ensures; issued_at = refl; cwt_id = refl; rest = refl })

pub returns-in_ok-time-in-IssuedAt : goal.returns-in_ok-time-in-IssuedAt
returns-in_ok-time-in-IssuedAt c = fills_field 6 c.in-IssuedAt.ensures refl (record { issuer = refl; subject = refl; audience = refl; expiration_time = refl; not_before = refl; issued_at = ap (option_map Some) c.in_ok-time-in-IssuedAt.ensures; cwt_id = refl; rest = refl })

pub returns-in_ok-cwt_id-in-CwtId : goal.returns-in_ok-cwt_id-in-CwtId
returns-in_ok-cwt_id-in-CwtId c = fills_field 7 c.in-CwtId.ensures refl (record { issuer = refl; subject = refl; audience = refl; expiration_time = refl; not_before = refl; issued_at = refl; cwt_id = ap (λ t. option_map Some (bytes_of t)) c.in_ok-cwt_id-in-CwtId.ensures; rest = refl })
