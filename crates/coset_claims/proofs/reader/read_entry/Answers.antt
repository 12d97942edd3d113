use Rattle.std.proofs.Common.{inl, inr}
use Rattle.std.proofs.lemmas.Result.{err_from_is_err_and}
use Rattle.coset_labels.proofs.Items.{match_map}
use Rattle.coset_claims.specs.Wrong.{name_again}
use Rattle.coset_claims.proofs.Steps.{entry_name, entry_field, known_filled}
use Rattle.coset_claims.proofs.reader.read_entry.Goals as goal

pub returns-in_err-name : goal.returns-in_err-name
returns-in_err-name c =
    let p = err_from_is_err_and c.from_residual.result c.from_residual.ensures.1 in
    λ es w. rw (p.1, p.2) (entry_name es _ _ _ c.in_err-name.ensures)

pub returns-in_err-fresh : goal.returns-in_err-fresh
returns-in_err-fresh c =
    let p = err_from_is_err_and c.from_residual-in_err-fresh.result c.from_residual-in_err-fresh.ensures.1 in
    λ es w. rw (p.1, p.2) (inl (c.in_err-fresh.ensures es w.sees))

pub returns-then-not-fresh : goal.returns-then-not-fresh
returns-then-not-fresh c = λ es w. inr (name_again _ c.in_ok-name.ensures (rw c.if-not-fresh.true at (c.in_ok-fresh.ensures es w.sees)).0)

pub returns : goal.returns
returns c =
    λ es w. let d = rw c.if-not-fresh.false at (c.in_ok-fresh.ensures es w.sees) in
    match_map c.fill.result _ _ _ _ (λ a s. known_filled es _ _ _ _ _ _ _ w c.in_ok-name.ensures d.0 d.1 s)
    (λ e x. entry_field es _ _ _ e c.in_ok-name.ensures d.0 x) c.fill.ensures
