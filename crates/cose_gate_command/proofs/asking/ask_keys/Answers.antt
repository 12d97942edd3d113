use Rattle.std.proofs.Common.{refl}
use Rattle.cose_gate_program.proofs.Tellings.{not_ended}
use Rattle.cose_gate_command.specs.Asking.AsksByRules.{not_begun, after_run}
use Rattle.cose_gate_command.proofs.asking.ask_keys.Goals as goal

pub returns-in-Ok-clause-ran : goal.returns-in-Ok-clause-ran
returns-in-Ok-clause-ran g c =
    let b = c.in-Ok.ensures.begun in
    let token = c.token_terms-token.ensures (rw c.as_slice-in-Ok.ensures.value c.in-Ok.ensures.needed) in
    after_run b.0 _ b.1 b.2 _ b.3
    (rw token at (rw c.as_slice.ensures.value at (rw (c.run_terms-run.ensures.terms, c.run_terms-run.ensures.aad) at c.ask_blocks.ensures.ran)))

pub returns-in-Err-clause-ran : goal.returns-in-Err-clause-ran
returns-in-Err-clause-ran g c = not_begun c.in-Err.why c.in-Err.ensures.begun c.end_unbegun.ensures.status refl refl c.end_unbegun.ensures.said

pub returns-in-Err-clause-handed : goal.returns-in-Err-clause-handed
returns-in-Err-clause-handed g c = not_ended _ c.in-Err.why _ c.end_unbegun.ensures.status

pub returns-in-Err-clause-lines : goal.returns-in-Err-clause-lines
returns-in-Err-clause-lines g c = not_ended _ c.in-Err.why _ c.end_unbegun.ensures.status
