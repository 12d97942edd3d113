use Rattle.std.proofs.Common.{None, Some, inr, ap, arith}
use Rattle.std.proofs.lemmas.Result.{err_from_is_err_and}
use Rattle.ciborium_value.specs.Tree.{no_trees, one_more}
use Rattle.ciborium_value.specs.View.{views}
use Rattle.coset_labels.proofs.Items.{match_map}
use Rattle.coset_kdf.proofs.Steps.{public_kind, public_count, public_other, public_wrong, public_has, third_bytes}
use Rattle.coset_kdf.proofs.reader.read_public.Goals as goal

pub returns-in_err-items : goal.returns-in_err-items
returns-in_err-items c =
    let p = err_from_is_err_and c.from_residual.result c.from_residual.ensures.1 in
    rw (p.1, p.2) (public_kind _ _ _ _ c.in_err-items.ensures)

pub returns-then-len-eq2 : goal.returns-then-len-eq2
returns-then-len-eq2 c =
    match_map c.read_two.result _ _ _ _ (λ s w. public_has _ _ _ _ None _ c.in_ok-items.ensures (ap views c.in-Some.ensures) w)
    (λ e w. public_wrong _ _ _ _ no_trees e c.in_ok-items.ensures (ap views c.in-Some.ensures) (omega arith) w) c.read_two.ensures

pub returns-in_default-three : goal.returns-in_default-three
returns-in_default-three c =
    inr (public_count _ _ _ c.in_ok-items.items.items c.in_ok-items.ensures
    (λ e. omega (arith, e, c.in_ok-items.items.ok.0, c.len.ensures, c.if-len-eq2.false)) c.in_default-three.ensures)

pub returns-in_err-other : goal.returns-in_err-other
returns-in_err-other c =
    let p = err_from_is_err_and c.from_residual-in_err-other.result c.from_residual-in_err-other.ensures.1 in
    rw (p.1, p.2) (public_other _ _ _ _ _ _ _ _ c.in_ok-items.ensures (ap views c.in-Some-three.ensures) c.in_err-other.ensures)

pub returns : goal.returns
returns c =
    match_map c.read_two-2.result _ _ _ _
    (λ s w. public_has _ _ _ _ (Some c.in_ok-other.other.items) _ c.in_ok-items.ensures (third_bytes _ _ _ _ _ (ap views c.in-Some-three.ensures) c.in_ok-other.ensures) w)
    (λ e w. public_wrong _ _ _ _ (one_more _ no_trees) e c.in_ok-items.ensures (ap views c.in-Some-three.ensures) (omega arith) w) c.read_two-2.ensures
