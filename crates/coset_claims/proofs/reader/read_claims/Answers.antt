use Rattle.std.proofs.lemmas.Result.{err_from_is_err_and}
use Rattle.coset_labels.proofs.Items.{match_map}
use Rattle.coset_claims.proofs.Steps.{claims_kind, claims_inside, claims_have}
use Rattle.coset_claims.proofs.reader.read_claims.Goals as goal

pub returns-in_err-entries : goal.returns-in_err-entries
returns-in_err-entries c =
    let p = err_from_is_err_and c.from_residual.result c.from_residual.ensures.1 in
    rw (p.1, p.2) (claims_kind _ _ c.in_err-entries.ensures)

pub returns : goal.returns
returns c =
    match_map c.read_entries.result _ _ _ _ (λ x s. claims_have _ _ _ c.in_ok-entries.ensures s)
    (λ e w. claims_inside _ _ e c.in_ok-entries.ensures w) c.read_entries.ensures
