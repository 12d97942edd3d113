use Rattle.std.proofs.Common.{refl, sym, ap, ◌∙◌}
use Rattle.std.specs.Result.{result_ok}
use Rattle.std.specs.Prelude.{option_copied, option_map}
use Rattle.std.proofs.lemmas.Result.{err_from_is_err_and}
use Rattle.cose_gate_command.specs.Arguments.{ask_view}
use Rattle.cose_gate_command.specs.Asking.AskEnds.{not_run, after_run, by_rules}
use Rattle.cose_gate_command.proofs.NotRuns.{asks_usage, asks_not}
use Rattle.cose_gate_command.proofs.asking.ask.Goals as goal

pub returns-in-Err-clause-ran : goal.returns-in-Err-clause-ran
returns-in-Err-clause-ran g c = not_run _ (asks_usage _ (ap result_ok c.in-Err.ensures)) refl refl refl refl

pub returns-in-Some-clause-ran : goal.returns-in-Some-clause-ran
returns-in-Some-clause-ran g c = by_rules (ask_view c.in-Ok.arguments) (ap result_ok c.in-Ok.ensures)
    c.in-Some.name.now (ap option_copied c.in-Some.is) _ refl c.ask_keys.ensures.ran

pub returns-in_err-aad-clause-ran : goal.returns-in_err-aad-clause-ran
returns-in_err-aad-clause-ran g c =
    let p = err_from_is_err_and c.from_residual.result c.from_residual.ensures.1 in
    rw (p.1, p.2) (not_run _ (asks_not _ (ask_view c.in-Ok.arguments) _ (ap result_ok c.in-Ok.ensures) (ap option_copied c.in_default.is) c.in_err-aad.ensures) refl refl refl refl)

pub returns-clause-ran : goal.returns-clause-ran
returns-clause-ran g c = after_run (ask_view c.in-Ok.arguments) (ap result_ok c.in-Ok.ensures) (ap option_copied c.in_default.is) _ c.in_ok-aad.ensures
    (rw c.as_slice.ensures.value at (rw c.form.ensures at (rw (c.run_terms-run.ensures.terms, c.run_terms-run.ensures.aad) at c.ask_by.ensures.ran)))
