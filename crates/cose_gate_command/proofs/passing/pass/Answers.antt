use Rattle.std.proofs.Common.{refl, sym, ap, ◌∙◌}
use Rattle.std.specs.Result.{result_ok}
use Rattle.std.specs.Prelude.{option_map}
use Rattle.std.proofs.lemmas.Result.{err_from_is_err_and}
use Rattle.cose_gate_command.specs.Arguments.{pass_view}
use Rattle.cose_gate_command.specs.Passing.{not_run, after_run, by_digests}
use Rattle.cose_gate_command.proofs.NotRuns.{passes_usage, passes_no_file, passes_no_aad, passes_no_records}
use Rattle.cose_gate_command.proofs.passing.pass.Goals as goal

pub returns-in-Err-clause-ran : goal.returns-in-Err-clause-ran
returns-in-Err-clause-ran g c = not_run _ (passes_usage _ _ (ap result_ok c.in-Err.ensures)) refl refl refl

pub returns-in_default-clause-ran : goal.returns-in_default-clause-ran
returns-in_default-clause-ran g c =
    not_run _ (passes_no_file _ (pass_view c.in-Ok.arguments) _ (ap result_ok c.in-Ok.ensures)
    (ap (option_map (λ bytes. bytes.items)) c.in_default.is)) refl refl refl

pub returns-in_err-aad-clause-ran : goal.returns-in_err-aad-clause-ran
returns-in_err-aad-clause-ran g c =
    let p = err_from_is_err_and c.from_residual.result c.from_residual.ensures.1 in
    rw (p.1, p.2) (not_run _ (passes_no_aad (pass_view c.in-Ok.arguments) c.in-Some.accepted.items _ _ _
    (ap result_ok c.in-Ok.ensures) (ap (option_map (λ bytes. bytes.items)) c.in-Some.is) c.in_err-aad.ensures) refl refl refl)

pub returns-in_err-records-clause-ran : goal.returns-in_err-records-clause-ran
returns-in_err-records-clause-ran g c =
    let p = err_from_is_err_and c.from_residual-in_err-records.result c.from_residual-in_err-records.ensures.1 in
    rw (p.1, p.2) (not_run _ (passes_no_records (pass_view c.in-Ok.arguments) c.in-Some.accepted.items _ _ _
    (ap result_ok c.in-Ok.ensures) (ap (option_map (λ bytes. bytes.items)) c.in-Some.is) c.if-arguments.false c.in_err-records.ensures) refl refl refl)

pub returns-then-arguments-clause-ran : goal.returns-then-arguments-clause-ran
returns-then-arguments-clause-ran g c = by_digests (pass_view c.in-Ok.arguments) (ap result_ok c.in-Ok.ensures) c.if-arguments.true _ c.in_ok-aad.ensures _
    (ap (option_map (λ bytes. bytes.items)) c.in-Some.is)
    (rw c.as_slice.ensures.value at (rw c.as_slice-then-arguments.ensures.value at (rw (c.run_terms-run.ensures.terms, c.run_terms-run.ensures.aad) at c.pass_digests.ensures.ran)))

pub returns-clause-ran : goal.returns-clause-ran
returns-clause-ran g c = after_run (pass_view c.in-Ok.arguments) (ap result_ok c.in-Ok.ensures) c.if-arguments.false _ c.in_ok-aad.ensures _ _
    (ap (option_map (λ bytes. bytes.items)) c.in-Some.is) c.in_ok-records.ensures
    (rw c.as_slice.ensures.value at (rw c.as_slice-2.ensures.value at (rw (c.run_terms-run.ensures.terms, c.run_terms-run.ensures.aad) at c.pass_by.ensures.ran)))
