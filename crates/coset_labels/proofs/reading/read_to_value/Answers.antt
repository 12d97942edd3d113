use Rattle.std.proofs.Common.{true, refl}
use Rattle.std.proofs.lemmas.Result.{err_from_is_err_and}
use Rattle.coset_labels.proofs.Items.{slice_left, not_read, behind}
use Rattle.coset_labels.proofs.reading.read_to_value.Goals as goal

pub returns-in_err-value : goal.returns-in_err-value
returns-in_err-value c =
    let p = err_from_is_err_and c.from_residual.result c.from_residual.ensures.1 in
    let d = c.from-decoder.ensures in
    rw (p.1, p.2) (not_read (λ x. true) _ c.args.bytes.now _ _ _ _ c.is_short.ensures (slice_left c.from-decoder.result c.args.bytes d.0 d.2) d.1 (λ x. refl) c.in_err-value.ensures.err)

pub returns-then-offset-bytes : goal.returns-then-offset-bytes
returns-then-offset-bytes c =
    let d = c.from-decoder.ensures in
    behind _ _ c.args.bytes.now _ _ _ _ _ (slice_left c.from-decoder.result c.args.bytes d.0 d.2) d.1 c.in_ok-value.ensures.ok c.offset.ensures c.if-offset-bytes.true
