use Rattle.std.proofs.Common.{inl, inr, refl}
use Rattle.std.proofs.lemmas.Result.{err_from_is_err_and}
use Rattle.coset_labels.proofs.Items.{match_map}
use Rattle.coset_keys.specs.Wrong.{label_again}
use Rattle.coset_keys.proofs.Steps.{entry_label, entry_value, entry_added}
use Rattle.coset_keys.proofs.reader.read_entry.Goals as goal

pub returns-in_err-label : goal.returns-in_err-label
returns-in_err-label c =
    let p = err_from_is_err_and c.from_residual.result c.from_residual.ensures.1 in
    λ es w. rw (p.1, p.2) (entry_label es _ _ _ c.in_err-label.ensures)

pub returns-in_err-fresh : goal.returns-in_err-fresh
returns-in_err-fresh c =
    let p = err_from_is_err_and c.from_residual-in_err-fresh.result c.from_residual-in_err-fresh.ensures.1 in
    λ es w. rw (p.1, p.2) (inl (c.in_err-fresh.ensures es w.sees))

pub returns-then-not-fresh : goal.returns-then-not-fresh
returns-then-not-fresh c = λ es w. inr (label_again _ c.in_ok-label.ensures (rw c.if-not-fresh.true at (c.in_ok-fresh.ensures es w.sees)).0 refl)

pub returns : goal.returns
returns c =
    λ es w. let d = rw c.if-not-fresh.false at (c.in_ok-fresh.ensures es w.sees) in
    match_map c.fill.result _ _ _ _ (λ a s. entry_added es _ _ _ c.args.key.now _ _ w.known c.in_ok-label.ensures d.0 d.1 s)
    (λ e x. entry_value es _ _ _ e c.in_ok-label.ensures d.0 x) c.fill.ensures
