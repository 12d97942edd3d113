use Rattle.std.proofs.lemmas.Result.{err_from_is_err_and}
use Rattle.coset_keys.proofs.Steps.{set_kind, set_inside}
use Rattle.coset_keys.proofs.reader.read_key_set.Goals as goal

pub returns-in_err-items : goal.returns-in_err-items
returns-in_err-items c =
    let p = err_from_is_err_and c.from_residual.result c.from_residual.ensures.1 in
    rw (p.1, p.2) (set_kind _ _ c.in_err-items.ensures)

pub returns-in_err-keys : goal.returns-in_err-keys
returns-in_err-keys c =
    let p = err_from_is_err_and c.from_residual-in_err-keys.result c.from_residual-in_err-keys.ensures.1 in
    rw (p.1, p.2) (set_inside _ _ _ c.in_ok-items.ensures c.in_err-keys.ensures)
