use Rattle.std.proofs.Common.{refl, sym, subst}
use Rattle.std.specs.Prelude.{option_map}
use Rattle.cose_gate_core.proofs.InOrder.{err_is}
use Rattle.cose_rules.specs.TokenView.{terms_view}
use Rattle.cose_ruled.specs.Blocks.{IsBlock}
use Rattle.cose_ruled.proofs.Runs.{block_sent, block_torn}
use Rattle.cose_ruled.proofs.running.ask_item.Goals as goal

pub returns-in_err-block-clause-handed : goal.returns-in_err-block-clause-handed
returns-in_err-block-clause-handed g c = rw (err_is _ _ c.from_residual.ensures.1) (λ ps is. (refl, refl))

pub returns-in-Ok-clause-handed : goal.returns-in-Ok-clause-handed
returns-in-Ok-clause-handed g c = λ ps is.
    let IsIt = IsBlock (option_map terms_view c.args.token) c.args.entry.now c.args.end ps in
    block_sent g.W.Write g.T.Teller _ _ _ _ _ _ _ IsIt _ _ c.in-Ok.is c.write_block-handed.ensures.ok c.write_block-handed.ensures.failed
    (subst IsIt (sym c.deref.ensures.value) (c.in_ok-block.ensures ps is)) c.tell.ensures c.rest.ensures

pub returns-clause-handed : goal.returns-clause-handed
returns-clause-handed g c = λ ps is.
    let IsIt = IsBlock (option_map terms_view c.args.token) c.args.entry.now c.args.end ps in
    block_torn g.W.Write g.T.Teller _ _ _ _ _ _ IsIt _ _ c.in-Err.is c.write_block-handed.ensures.err c.write_block-handed.ensures.failed
    (subst IsIt (sym c.deref.ensures.value) (c.in_ok-block.ensures ps is)) c.tell.ensures
