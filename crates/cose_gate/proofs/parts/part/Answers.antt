use Rattle.std.proofs.Common.{ap, sym, ◌∙◌}
use Rattle.std.proofs.lemmas.Result.{err_from_is_err_and}
use Rattle.cose_gate.proofs.Faults.{part_title_tells, part_item, part_as, put_back, reads_as, fresh_due}
use Rattle.cose_gate.specs.ElementFaults.{NoneWrong}
use Rattle.cose_gate.proofs.Far.{far_item}
use Rattle.cose_gate.proofs.parts.part.Goals as goal

pub returns-in_err-header-clause-err : goal.returns-in_err-header-clause-err
returns-in_err-header-clause-err g c =
    let p = err_from_is_err_and c.from_residual.result c.from_residual.ensures.1 in
    rw (p.1, p.2) (part_title_tells g.R.Read.ends _ NoneWrong _ _ _ c.in_err-header.ensures.err)

pub returns-in_err-value-clause-err : goal.returns-in_err-value-clause-err
returns-in_err-value-clause-err g c =
    let p = err_from_is_err_and c.from_residual-in_err-value.result c.from_residual-in_err-value.ensures.1 in
    let stays = rw c.if-is_break.false at c.is_break.ensures in
    rw (p.1, p.2) (part_as g.R.Read.ends NoneWrong _ _ _ _ _ c.nesting.ensures.chosen (part_item g.R.Read.ends _ NoneWrong _ _ _ _ _ _ _ _ _ c.in_ok-header.ensures.ok stays c.header_fits.ensures c.push.ensures.left c.push.ensures.offset c.in_err-value.ensures.err))

pub returns-clause-ok : goal.returns-clause-ok
returns-clause-ok g c =
    reads_as _ _ _ _ _ _ _ c.nesting.ensures.chosen (put_back _ _ _ _ _ _ _ _ _ _ _ c.in_ok-header.ensures.ok (fresh_due _ _ c.in_ok-header.ensures.steady.waiting ∙ ap g.R.Read.left (sym c.push.ensures.reader)) c.push.ensures.offset (c.in_ok-value.ensures.waited _ c.push.ensures.waiting))

pub returns-in_err-value-clause-far : goal.returns-in_err-value-clause-far
returns-in_err-value-clause-far g c =
    let p = err_from_is_err_and c.from_residual-in_err-value.result c.from_residual-in_err-value.ensures.1 in
    rw (p.1, p.2) (far_item _ _ _ _ _ c.in_err-value.ensures.stops)
