use Rattle.std.proofs.Common.{inr}
use Rattle.std.proofs.lemmas.Result.{err_from_is_err_and}
use Rattle.coset_keys.proofs.Numbers.{is_reserved, not_reserved}
use Rattle.coset_keys.proofs.Steps.{key_kind, key_inside, key_untyped, key_has}
use Rattle.coset_keys.proofs.reader.read_key.Goals as goal

pub returns-in_err-entries : goal.returns-in_err-entries
returns-in_err-entries c =
    let p = err_from_is_err_and c.from_residual.result c.from_residual.ensures.1 in
    rw (p.1, p.2) (key_kind _ _ c.in_err-entries.ensures)

pub returns-in_err-key : goal.returns-in_err-key
returns-in_err-key c =
    let p = err_from_is_err_and c.from_residual-in_err-key.result c.from_residual-in_err-key.ensures.1 in
    rw (p.1, p.2) (key_inside _ _ _ c.in_ok-entries.ensures c.in_err-key.ensures)

pub returns-then-eq : goal.returns-then-eq
returns-then-eq c = inr (key_untyped _ _ _ c.in_ok-entries.ensures c.in_ok-key.ensures (is_reserved _ _ _ c.default.ensures c.eq.ensures c.if-eq.true))

pub returns : goal.returns
returns c = key_has _ _ _ c.in_ok-entries.ensures c.in_ok-key.ensures (not_reserved _ _ _ c.default.ensures c.eq.ensures c.if-eq.false)
