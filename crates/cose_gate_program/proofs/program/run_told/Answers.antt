use Rattle.std.proofs.Common.{refl}
use Rattle.cose_gate_program.proofs.Runs.{then_flushed}
use Rattle.cose_gate_program.proofs.Tellings.{handed_on, ran_told}
use Rattle.cose_gate_program.proofs.program.run_told.Goals as goal

pub returns-clause-ran : goal.returns-clause-ran
returns-clause-ran g c =
    let run = c.gate_told-gated.ensures.ran in
    ran_told g.T.Teller.folded _ _ _ _ _ _ _ run.run
    (then_flushed c.flush.result _ _ _ _ _ _ run.run run.shows refl c.flush.ensures.same refl c.flush.ensures.failed)
    run.asked run.told run.result_is c.is_ok.ensures.value c.last_of-last.ensures c.tell.ensures c.status_after.ensures

pub returns-clause-handed : goal.returns-clause-handed
returns-clause-handed g c =
    handed_on c.flush.result _ _ _ _ _ c.flush.ensures.handed c.is_ok.ensures.value c.last_of-last.ensures c.status_after.ensures
