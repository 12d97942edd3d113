use Rattle.std.proofs.lemmas.Result.{err_from_is_err_and}
use Rattle.coset_headers.specs.Wrong.{WrongHeader}
use Rattle.cose_gate_core.proofs.NoMemory.{header_is_named}
use Rattle.cose_gate.proofs.Faults.{part_refused}
use Rattle.cose_gate.proofs.Far.{far_shape}
use Rattle.cose_gate.proofs.parts.unprotected_part.Goals as goal

pub returns-in_err-header-clause-err : goal.returns-in_err-header-clause-err
returns-in_err-header-clause-err g c =
    let p = err_from_is_err_and c.from_residual-in_err-header.result c.from_residual-in_err-header.ensures.1 in
    rw (p.1, p.2) (part_refused g.R.Read.ends _ (λ v e. WrongHeader c.args.limits.nesting v c.args.limits.layers e) _ _ _ _ _ _ c.in_ok-value.ensures.ok (λ f w. header_is_named _ _ _ f w) c.in_err-header.ensures)

pub returns-in_err-header-clause-far : goal.returns-in_err-header-clause-far
returns-in_err-header-clause-far g c =
    let p = err_from_is_err_and c.from_residual-in_err-header.result c.from_residual-in_err-header.ensures.1 in
    rw (p.1, p.2) (far_shape 0 _ _)
