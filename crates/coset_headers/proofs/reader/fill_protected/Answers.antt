use Rattle.std.proofs.lemmas.Result.{err_from_is_err_and}
use Rattle.std.proofs.Common.{◌-◌, subst}
use Rattle.coset_labels.specs.Faults.{OrMemory}
use Rattle.coset_headers.specs.Walks.{WrongInside}
use Rattle.coset_headers.proofs.Steps.{prot_inside}
use Rattle.coset_headers.proofs.reader.fill_protected.Goals as goal

pub returns-in_err-bytes : goal.returns-in_err-bytes
returns-in_err-bytes c =
    let p = err_from_is_err_and c.from_residual.result c.from_residual.ensures.1 in
    rw (p.1, p.2) (c.in_err-bytes.ensures c.args.nesting)

pub returns-in_err-walk_bytes : goal.returns-in_err-walk_bytes
returns-in_err-walk_bytes c =
    let p = err_from_is_err_and c.from_residual-in_err-walk_bytes.result c.from_residual-in_err-walk_bytes.ensures.1 in
    let o = c.in_ok-bytes.ensures in
    rw (p.1, p.2) (prot_inside _ _ c.in_ok-bytes.bytes.items _ _ o.0 o.1 (subst (λ z. OrMemory (WrongInside c.args.nesting z (c.args.layers - 1)) c.in_err-walk_bytes.field-0.0) c.as_slice.ensures.value c.in_err-walk_bytes.ensures))
