use Rattle.std.proofs.Common.{ap, refl, Some, option_map}
use Rattle.std.proofs.lemmas.Result.{err_from_is_err_and}
use Rattle.coset_keys.specs.Parts.{fills_kty, fills_key_id, fills_alg, fills_key_ops, fills_base_iv}
use Rattle.coset_keys.proofs.Steps.{value_ops}
use Rattle.coset_keys.proofs.key.CoseKey.fill.Goals as goal

pub returns-in_err-key_ops-in-KeyOps : goal.returns-in_err-key_ops-in-KeyOps
returns-in_err-key_ops-in-KeyOps c =
    let p = err_from_is_err_and c.from_residual-in_err-key_ops-in-KeyOps.result c.from_residual-in_err-key_ops-in-KeyOps.ensures.1 in
    rw (p.1, p.2) (value_ops _ _ _ c.in-KeyOps.ensures c.in_err-key_ops-in-KeyOps.ensures)

pub returns-in_ok-kty-in-Kty : goal.returns-in_ok-kty-in-Kty
returns-in_ok-kty-in-Kty c = fills_kty _ c.in-Kty.ensures c.in_ok-kty-in-Kty.ensures refl

pub returns-in_ok-key_id-in-KeyId : goal.returns-in_ok-key_id-in-KeyId
returns-in_ok-key_id-in-KeyId c = fills_key_id _ c.in-KeyId.ensures c.in_ok-key_id-in-KeyId.ensures refl

pub returns-in_ok-alg-in-Alg : goal.returns-in_ok-alg-in-Alg
returns-in_ok-alg-in-Alg c = fills_alg _ c.in-Alg.ensures (ap (option_map Some) c.in_ok-alg-in-Alg.ensures) refl

pub returns-in_ok-key_ops-in-KeyOps : goal.returns-in_ok-key_ops-in-KeyOps
returns-in_ok-key_ops-in-KeyOps c = fills_key_ops _ c.in-KeyOps.ensures c.in_ok-key_ops-in-KeyOps.ensures refl

pub returns-in_ok-base_iv-in-BaseIv : goal.returns-in_ok-base_iv-in-BaseIv
returns-in_ok-base_iv-in-BaseIv c = fills_base_iv _ c.in-BaseIv.ensures c.in_ok-base_iv-in-BaseIv.ensures refl
