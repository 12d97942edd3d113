use Rattle.std.proofs.Common.{ap}
use Rattle.std.specs.Prelude.{option_copied}
use Rattle.std.proofs.lemmas.Result.{err_from_is_err_and}
use Rattle.cose_gate_program.specs.Beginning.{aad_of}
use Rattle.cose_gate_program.proofs.Begins.{by_aad, by_keys}
use Rattle.cose_gate_program.proofs.beginning.begin.Goals as goal

pub returns-in_err-aad-in-Some : goal.returns-in_err-aad-in-Some
returns-in_err-aad-in-Some c =
    let p = err_from_is_err_and c.from_residual.result c.from_residual.ensures.1 in
    rw (p.1, p.2) (by_aad _ (option_copied c.args.aad) _ _ (ap option_copied c.in-Some.is) c.in_err-aad-in-Some.ensures)

pub returns-in_err-keys-in-Some : goal.returns-in_err-keys-in-Some
returns-in_err-keys-in-Some c =
    let p = err_from_is_err_and c.from_residual-in_err-keys-in-Some.result c.from_residual-in_err-keys-in-Some.ensures.1 in
    rw (p.1, p.2) (by_keys _ (aad_of (option_copied c.args.aad)) _ _ _ (ap option_copied c.in-Some.is) c.in_ok-aad-in-Some.ensures c.in_err-keys-in-Some.ensures)
