use Rattle.std.proofs.Common.{inr}
use Rattle.std.proofs.lemmas.Result.{err_from_is_err_and}
use Rattle.coset_headers.proofs.Empty.{empty_vec}
use Rattle.coset_keys.proofs.Steps.{ops_kind, ops_empty}
use Rattle.coset_keys.proofs.operations.read_operations.Goals as goal

pub returns-in_err-items : goal.returns-in_err-items
returns-in_err-items c =
    let p = err_from_is_err_and c.from_residual.result c.from_residual.ensures.1 in
    rw (p.1, p.2) (ops_kind _ _ c.in_err-items.ensures)

pub returns-then-is_empty : goal.returns-then-is_empty
returns-then-is_empty c = inr (ops_empty _ c.in_ok-items.items.items c.in_ok-items.ensures (empty_vec c.in_ok-items.items _ c.is_empty.ensures c.if-is_empty.true))
