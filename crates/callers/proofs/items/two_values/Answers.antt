use Rattle.std.proofs.Common.{rules}
use Rattle.std.proofs.lemmas.Result.{err_from_is_err_and}
use Rattle.callers.proofs.Further.{none_first, none_second}
use Rattle.callers.proofs.items.two_values.Goals as goal

pub returns-in_err-one-clause-err : goal.returns-in_err-one-clause-err
returns-in_err-one-clause-err c =
    let p = err_from_is_err_and c.from_residual.result c.from_residual.ensures.1 in
    rw (p.1, p.2) (none_first c.args.input.now _ _ _ _ _ c.in_err-one.ensures.err (search rules) (search rules) (search rules))

pub returns-in_err-two-clause-err : goal.returns-in_err-two-clause-err
returns-in_err-two-clause-err c =
    let p = err_from_is_err_and c.from_residual-in_err-two.result c.from_residual-in_err-two.ensures.1 in
    rw (p.1, p.2) (none_second c.args.input.now _ _ _ _ _ _ _ _ _ c.in_ok-one.ensures.ok c.in_err-two.ensures.err (search rules) (search rules) (search rules) (search rules))
