use Rattle.std.proofs.Common.{refl}
use Rattle.cose_gate_program.specs.Telling.{not_begun}
use Rattle.cose_gate_program.specs.declared.telling.Notice.TheVariants.{NotBegun}
use Rattle.cose_gate_program.proofs.LentLines.{wrote_one}
use Rattle.cose_gate_program.proofs.Tellings.{began, not_ended}
use Rattle.cose_gate_program.proofs.program.run_with.Goals as goal

pub returns-in-Ok-clause-ran : goal.returns-in-Ok-clause-ran
returns-in-Ok-clause-ran g c =
    let b = c.in-Ok.ensures in
    began _ _ _ _ _ b.1 b.2 b.3 c.as_slice-aad.ensures.value c.prepared-judge.ensures c.run_judged.ensures.ran

pub returns-in-Err-clause-ran : goal.returns-in-Err-clause-ran
returns-in-Err-clause-ran g c = not_begun c.in-Err.why c.in-Err.ensures c.status.ensures refl (wrote_one g.E.Write _ _ (NotBegun c.in-Err.why) c.write_notice.ensures.wrote)

pub returns-in-Err-clause-handed : goal.returns-in-Err-clause-handed
returns-in-Err-clause-handed g c = not_ended _ c.in-Err.why _ c.status.ensures

pub returns-in-Err-clause-lines : goal.returns-in-Err-clause-lines
returns-in-Err-clause-lines g c = c.write_notice.ensures.handed refl
