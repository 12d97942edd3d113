use Rattle.std.proofs.Common.{◌≢◌, [], subst}
use Rattle.std.proofs.lemmas.Result.{err_from_is_err_and}
use Rattle.ciborium_value.specs.View.{view}
use Rattle.ciborium.specs.Front.{Reads}
use Rattle.coset_labels.specs.Faults.{OrMemory}
use Rattle.coset_labels.specs.Reading.{NotReadable}
use Rattle.coset_headers.proofs.Empty.{full_vec}
use Rattle.coset_headers.proofs.Steps.{header_kind, prot_inside, inside_unreadable, inside_wrong}
use Rattle.coset_headers.proofs.reader.open_protected.Goals as goal

pub returns-in_err-bytes : goal.returns-in_err-bytes
returns-in_err-bytes c =
    let p = err_from_is_err_and c.from_residual.result c.from_residual.ensures.1 in
    rw (p.1, p.2) (c.in_err-bytes.ensures c.args.nesting)

pub returns-in_err-value : goal.returns-in_err-value
returns-in_err-value c =
    let p = err_from_is_err_and c.from_residual-in_err-value.result c.from_residual-in_err-value.ensures.1 in
    let full : c.in_ok-bytes.bytes.items ≢ [] = full_vec c.in_ok-bytes.bytes _ c.is_empty.ensures c.if-is_empty.false in
    rw (p.1, p.2) (prot_inside _ _ c.in_ok-bytes.bytes.items _ _ c.in_ok-bytes.ensures.0 c.in_ok-bytes.ensures.1 (inside_unreadable _ _ _ _ full
    (subst (λ z. OrMemory (NotReadable z c.args.nesting) c.in_err-value.field-0.0) c.as_slice.ensures.value c.in_err-value.ensures)))

pub returns-in_err-entries : goal.returns-in_err-entries
returns-in_err-entries c =
    let p = err_from_is_err_and c.from_residual-in_err-entries.result c.from_residual-in_err-entries.ensures.1 in
    let full : c.in_ok-bytes.bytes.items ≢ [] = full_vec c.in_ok-bytes.bytes _ c.is_empty.ensures c.if-is_empty.false in
    rw (p.1, p.2) (prot_inside _ _ c.in_ok-bytes.bytes.items _ _ c.in_ok-bytes.ensures.0 c.in_ok-bytes.ensures.1 (inside_wrong _ _ (view c.in_ok-value.value) _ _ full
    (subst (λ z. Reads z c.args.nesting (view c.in_ok-value.value)) c.as_slice.ensures.value c.in_ok-value.ensures) (header_kind _ _ _ _ c.in_err-entries.ensures)))
