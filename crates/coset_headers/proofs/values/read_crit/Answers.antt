use Rattle.std.proofs.Common.{inr}
use Rattle.std.proofs.lemmas.Result.{err_from_is_err_and}
use Rattle.coset_headers.proofs.Empty.{empty_vec}
use Rattle.coset_headers.proofs.Names.{crit_kind, crit_empty}
use Rattle.coset_headers.proofs.values.read_crit.Goals as goal

pub returns-in_err-items : goal.returns-in_err-items
returns-in_err-items c =
    let p = err_from_is_err_and c.from_residual.result c.from_residual.ensures.1 in
    rw (p.1, p.2) (crit_kind _ _ c.in_err-items.ensures)

pub returns-then-is_empty : goal.returns-then-is_empty
returns-then-is_empty c = inr (crit_empty _ c.in_ok-items.items.items c.in_ok-items.ensures (empty_vec c.in_ok-items.items _ c.is_empty.ensures c.if-is_empty.true))
