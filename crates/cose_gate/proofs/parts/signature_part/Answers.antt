use Rattle.std.proofs.Common.{◌≡◌, sym, ◌∙◌}
use Rattle.std.proofs.lemmas.Result.{err_from_is_err_and}
use Rattle.coset_labels.specs.Faults.{unexpected, no_memory}
use Rattle.cose_gate.specs.ElementFaults.{NoBytes}
use Rattle.cose_gate.proofs.Faults.{part_wrong}
use Rattle.cose_gate.proofs.Far.{far_shape}
use Rattle.cose_gate.proofs.parts.signature_part.Goals as goal

pub returns-in_err-bytes-clause-err : goal.returns-in_err-bytes-clause-err
returns-in_err-bytes-clause-err g c =
    let p = err_from_is_err_and c.from_residual-in_err-bytes.result c.from_residual-in_err-bytes.ensures.1 in
    rw (p.1, p.2) (part_wrong g.R.Read.ends _ NoBytes _ _ _ _ _ _ c.in_ok-value.ensures.ok (λ f w same. let other : unexpected ≡ no_memory = sym w.0 ∙ same in cc) (λ n. c.in_err-bytes.ensures))

pub returns-in_err-bytes-clause-far : goal.returns-in_err-bytes-clause-far
returns-in_err-bytes-clause-far g c =
    let p = err_from_is_err_and c.from_residual-in_err-bytes.result c.from_residual-in_err-bytes.ensures.1 in
    rw (p.1, p.2) (far_shape 0 _ _)
