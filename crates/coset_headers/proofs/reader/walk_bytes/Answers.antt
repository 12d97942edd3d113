use Rattle.std.proofs.lemmas.Result.{err_from_is_err_and}
use Rattle.std.proofs.Common.{true, refl, inl, arith}
use Rattle.coset_labels.proofs.Items.{slice_left, not_read, behind}
use Rattle.coset_headers.proofs.Empty.{empty_by, full_by}
use Rattle.coset_headers.proofs.Steps.{inside_unreadable}
use Rattle.coset_headers.proofs.Walked.{all_taken, item_of, inside_read}
use Rattle.coset_headers.proofs.reader.walk_bytes.Goals as goal

pub returns-then-is_empty : goal.returns-then-is_empty
returns-then-is_empty c = inl (empty_by c.args.bytes.now _ c.is_empty.ensures c.if-is_empty.true, c.requires.empty)

pub returns-in_err-read : goal.returns-in_err-read
returns-in_err-read c =
    let p = err_from_is_err_and c.from_residual.result c.from_residual.ensures.1 in
    let d = c.from-decoder.ensures in
    rw (p.1, p.2) (inside_unreadable _ _ _ _ (full_by c.args.bytes.now _ c.is_empty.ensures c.if-is_empty.false)
    (not_read (λ x. true) _ c.args.bytes.now _ _ _ _ c.is_short.ensures (slice_left c.from-decoder.result c.args.bytes d.0 d.2) d.1 (λ x. refl) c.in_err-read.ensures.read.err))

pub returns-then-offset-bytes : goal.returns-then-offset-bytes
returns-then-offset-bytes c =
    let d = c.from-decoder.ensures in
    inside_unreadable _ _ _ _ (full_by c.args.bytes.now _ c.is_empty.ensures c.if-is_empty.false)
    (behind _ _ c.args.bytes.now _ _ _ _ _ (slice_left c.from-decoder.result c.args.bytes d.0 d.2) d.1 (item_of _ _ _ _ _ _ _ _ _ c.in_ok-read.ensures.read.ok) c.offset.ensures c.if-offset-bytes.true)

pub returns : goal.returns
returns c =
    let d = c.from-decoder.ensures in
    inside_read _ _ c.args.bytes.now _ _ (full_by c.args.bytes.now _ c.is_empty.ensures c.if-is_empty.false)
    (all_taken _ _ c.args.bytes.now _ _ _ _ (slice_left c.from-decoder.result c.args.bytes d.0 d.2) d.1 c.in_ok-read.ensures.read.ok c.offset.ensures (omega arith))
