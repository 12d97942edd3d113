use Rattle.std.proofs.Common.{refl}
use Rattle.cose_gate_program.specs.Telling.{not_begun}
use Rattle.cose_gate_program.proofs.Begins.{by_keys}
use Rattle.cose_gate_program.proofs.Tellings.{began, not_ended}
use Rattle.cose_gate_program.proofs.program.run_over_told.Goals as goal

pub returns-in-Ok-clause-ran : goal.returns-in-Ok-clause-ran
returns-in-Ok-clause-ran g c = began _ _ _ _ _ refl refl c.in-Ok.ensures refl c.prepared-judge.ensures c.run_told.ensures.ran

pub returns-in-Err-clause-ran : goal.returns-in-Err-clause-ran
returns-in-Err-clause-ran g c = not_begun c.in-Err.why (by_keys _ _ _ _ c.in-Err.why refl refl c.in-Err.ensures) c.status.ensures refl c.tell.ensures

pub returns-in-Err-clause-handed : goal.returns-in-Err-clause-handed
returns-in-Err-clause-handed g c = not_ended _ c.in-Err.why _ c.status.ensures
