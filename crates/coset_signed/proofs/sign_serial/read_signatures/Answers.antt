use Rattle.std.proofs.lemmas.Result.{err_from_is_err_and}
use Rattle.ciborium_value.specs.View.{views}
use Rattle.coset_labels.proofs.Items.{match_map}
use Rattle.coset_signed.proofs.Steps.{list_kind, list_inside}
use Rattle.coset_signed.proofs.sign_serial.read_signatures.Goals as goal

pub returns-in_err-items : goal.returns-in_err-items
returns-in_err-items c =
    let p = err_from_is_err_and c.from_residual.result c.from_residual.ensures.1 in
    rw (p.1, p.2) (list_kind _ _ _ _ c.in_err-items.ensures)

pub returns : goal.returns
returns c =
    match_map c.read_list.result _ _ _ _ (λ v s. (views c.in_ok-items.items.items, c.in_ok-items.ensures, s))
    (λ e w. list_inside _ _ (views c.in_ok-items.items.items) _ e c.in_ok-items.ensures w) c.read_list.ensures
