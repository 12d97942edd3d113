use Rattle.std.proofs.Common.{OnOk}
use Rattle.std.specs.Prelude.{Result, Ok, Err}
use Rattle.cose_gate_core.proofs.InOrder.{on_err_is}
use Rattle.cose_gate_core.proofs.Outcomes.{flushed}
use Rattle.cose_ruled.proofs.Runs.{front_of_all}
use Rattle.cose_ruled.proofs.running.write_block.Goals as goal

on_ok_is : {A E P : Type 0} (r : Result A E) → P → OnOk r P
on_ok_is (Ok x) p = p
on_ok_is (Err e) p = tt

pub returns-clause-ok : goal.returns-clause-ok
returns-clause-ok g c = on_ok_is _ (flushed _ _ _ _ c.flush.ensures.same c.in_ok-write_all.ensures.ok)

pub returns-clause-err : goal.returns-clause-err
returns-clause-err g c = on_err_is _ (front_of_all _ _ _ (flushed _ _ _ _ c.flush.ensures.same c.in_ok-write_all.ensures.ok))
