use Rattle.std.proofs.Common.{refl}
use Rattle.cose_gate_program.proofs.Tellings.{handed_on}
use Rattle.cose_ruled.proofs.Runs.{told_end}
use Rattle.cose_ruled.proofs.running.ask_ruled.Goals as goal

pub returns-clause-ran : goal.returns-clause-ran
returns-clause-ran g c =
    told_end g.W.Write g.T.Teller _ _ _ _ _ _ _ _ _ _ _ _ _ _ c.flush.result _ _ _ c.ask_items-asked.ensures.ran
    refl tt refl c.flush.ensures.failed c.flush.ensures.same c.is_ok.ensures.value c.last_of-last.ensures c.tell.ensures c.status_after.ensures

pub returns-clause-handed : goal.returns-clause-handed
returns-clause-handed g c =
    handed_on c.flush.result _ _ _ _ _ c.flush.ensures.handed c.is_ok.ensures.value c.last_of-last.ensures c.status_after.ensures
