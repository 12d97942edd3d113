use Rattle.std.proofs.Common.{rules, ap, inr, Some, option_map}
use Rattle.std.proofs.lemmas.Result.{err_from_is_err_and}
use Rattle.cose_iana.specs.Algorithms.{is_algorithm}
use Rattle.cose_iana.specs.Registry.{is_private_use}
use Rattle.ciborium_value.specs.View.{view}
use Rattle.coset_labels.specs.Labels.{WrongNamed}
use Rattle.coset_headers.specs.Parts.{plain_of, iv_second, partial_iv_second, fills_alg, fills_crit, fills_content_type, fills_key_id, fills_iv, fills_partial_iv}
use Rattle.coset_headers.specs.Wrong.{WrongCrit, WrongContentType, wrong_alg, wrong_crit, wrong_content_type, wrong_key_id, wrong_iv, wrong_partial_iv}
use Rattle.coset_headers.specs.declared.header.Header.{out-Header}
use Rattle.coset_headers.proofs.Alike.{plain_rolled, signs_rolled}
use Rattle.coset_headers.proofs.Empty.{full_vec, empty_vec}
use Rattle.coset_headers.proofs.Steps.{fill_wrong, field_fault}
use Rattle.coset_headers.proofs.header.Header.set.Goals as goal

pub returns-in_err-alg-in-Alg : goal.returns-in_err-alg-in-Alg
returns-in_err-alg-in-Alg c =
    let p = err_from_is_err_and c.from_residual.result c.from_residual.ensures.1 in
    rw (p.1, p.2) (field_fault (WrongNamed is_algorithm is_private_use (view c.args.value)) _ _ _ (plain_of c.args.self.now) _ (λ f x. wrong_alg f x) (rw c.in-Alg.is at c.requires.names) c.in_err-alg-in-Alg.ensures)

pub returns-in_err-crit-in-Crit : goal.returns-in_err-crit-in-Crit
returns-in_err-crit-in-Crit c =
    let p = err_from_is_err_and c.from_residual-in_err-crit-in-Crit.result c.from_residual-in_err-crit-in-Crit.ensures.1 in
    rw (p.1, p.2) (field_fault (WrongCrit (view c.args.value)) _ _ _ (plain_of c.args.self.now) _ (λ f x. wrong_crit f x) (rw c.in-Crit.is at c.requires.names) c.in_err-crit-in-Crit.ensures)

pub returns-in_err-content_type-in-ContentType : goal.returns-in_err-content_type-in-ContentType
returns-in_err-content_type-in-ContentType c =
    let p = err_from_is_err_and c.from_residual-in_err-content_type-in-ContentType.result c.from_residual-in_err-content_type-in-ContentType.ensures.1 in
    rw (p.1, p.2) (field_fault (WrongContentType (view c.args.value)) _ _ _ (plain_of c.args.self.now) _ (λ f x. wrong_content_type f x) (rw c.in-ContentType.is at c.requires.names) c.in_err-content_type-in-ContentType.ensures)

pub returns-in_err-key_id-in-KeyId : goal.returns-in_err-key_id-in-KeyId
returns-in_err-key_id-in-KeyId c =
    let p = err_from_is_err_and c.from_residual-in_err-key_id-in-KeyId.result c.from_residual-in_err-key_id-in-KeyId.ensures.1 in
    rw (p.1, p.2) (inr (fill_wrong _ _ _ _ _ (rw c.in-KeyId.is at c.requires.names) (wrong_key_id _ c.in_err-key_id-in-KeyId.ensures)))

pub returns-in_err-iv-in-Iv : goal.returns-in_err-iv-in-Iv
returns-in_err-iv-in-Iv c =
    let p = err_from_is_err_and c.from_residual-in_err-iv-in-Iv.result c.from_residual-in_err-iv-in-Iv.ensures.1 in
    rw (p.1, p.2) (inr (fill_wrong _ _ _ _ _ (rw c.in-Iv.is at c.requires.names) (wrong_iv _ c.in_err-iv-in-Iv.ensures)))

pub returns-in_err-partial_iv-in-PartialIv : goal.returns-in_err-partial_iv-in-PartialIv
returns-in_err-partial_iv-in-PartialIv c =
    let p = err_from_is_err_and c.from_residual-in_err-partial_iv-in-PartialIv.result c.from_residual-in_err-partial_iv-in-PartialIv.ensures.1 in
    rw (p.1, p.2) (inr (fill_wrong _ _ _ _ _ (rw c.in-PartialIv.is at c.requires.names) (wrong_partial_iv _ c.in_err-partial_iv-in-PartialIv.ensures)))

pub returns-then-not-is_empty : goal.returns-then-not-is_empty
returns-then-not-is_empty c = inr (iv_second _ (rw c.in-Iv.is at c.requires.names) c.in_ok-iv-in-Iv.ensures (full_vec (out-Header c.args.self.now).partial_iv _ c.is_empty.ensures c.if-not-is_empty.true) (search rules))

pub returns-then-not-is_empty-2 : goal.returns-then-not-is_empty-2
returns-then-not-is_empty-2 c = inr (partial_iv_second _ (rw c.in-PartialIv.is at c.requires.names) c.in_ok-partial_iv-in-PartialIv.ensures (full_vec (out-Header c.args.self.now).iv _ c.is_empty-in-PartialIv.ensures c.if-not-is_empty-2.true) (search rules))

pub returns-in_ok-alg-in-Alg : goal.returns-in_ok-alg-in-Alg
returns-in_ok-alg-in-Alg c = record { fields = fills_alg _ (rw c.in-Alg.is at c.requires.names) (ap (option_map Some) c.in_ok-alg-in-Alg.ensures) (plain_rolled _); signs = signs_rolled _ }

pub returns-in_ok-crit-in-Crit : goal.returns-in_ok-crit-in-Crit
returns-in_ok-crit-in-Crit c = record { fields = fills_crit _ (rw c.in-Crit.is at c.requires.names) c.in_ok-crit-in-Crit.ensures (plain_rolled _); signs = signs_rolled _ }

pub returns-in_ok-content_type-in-ContentType : goal.returns-in_ok-content_type-in-ContentType
returns-in_ok-content_type-in-ContentType c = record { fields = fills_content_type _ (rw c.in-ContentType.is at c.requires.names) c.in_ok-content_type-in-ContentType.ensures (plain_rolled _); signs = signs_rolled _ }

pub returns-in_ok-key_id-in-KeyId : goal.returns-in_ok-key_id-in-KeyId
returns-in_ok-key_id-in-KeyId c = record { fields = fills_key_id _ (rw c.in-KeyId.is at c.requires.names) c.in_ok-key_id-in-KeyId.ensures (plain_rolled _); signs = signs_rolled _ }

pub returns-else-not-is_empty : goal.returns-else-not-is_empty
returns-else-not-is_empty c = record { fields = fills_iv _ (rw c.in-Iv.is at c.requires.names) c.in_ok-iv-in-Iv.ensures (empty_vec (out-Header c.args.self.now).partial_iv _ c.is_empty.ensures c.if-not-is_empty.false) (plain_rolled _); signs = signs_rolled _ }

pub returns-else-not-is_empty-2 : goal.returns-else-not-is_empty-2
returns-else-not-is_empty-2 c = record { fields = fills_partial_iv _ (rw c.in-PartialIv.is at c.requires.names) c.in_ok-partial_iv-in-PartialIv.ensures (empty_vec (out-Header c.args.self.now).iv _ c.is_empty-in-PartialIv.ensures c.if-not-is_empty-2.false) (plain_rolled _); signs = signs_rolled _ }
