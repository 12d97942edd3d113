use Rattle.std.proofs.Common.{inl, inr, refl, map, Some, sym, ap, ◌∙◌, ⊎_elim}
use Rattle.coset_labels.proofs.Items.{match_map}
use Rattle.coset_headers.specs.View.{entry_view}
use Rattle.coset_keys.specs.Points.{x_label, y_label, first_at, no_ec_key, missing, no_coordinates}
use Rattle.coset_keys.proofs.key.CoseKey.to_sec1_octet_string.Goals as goal

pub returns-then-not-is_ec2 : goal.returns-then-not-is_ec2
returns-then-not-is_ec2 c = inr (no_ec_key (rw c.if-not-is_ec2.true at c.is_ec2.ensures) refl)

pub returns-in-Some-first_value : goal.returns-in-Some-first_value
returns-in-Some-first_value c =
    let ec2 = rw c.if-not-is_ec2.false at c.is_ec2.ensures in
    let x = sym (c.in-Some.ensures ∙ ap (λ z. first_at x_label (map entry_view z)) c.deref.ensures.value) in
    let y = sym (c.in-Some-first_value.ensures ∙ ap (λ z. first_at y_label (map entry_view z)) c.deref-in-Some.ensures.value) in
    match_map c.write_point.result _ _ _ _
    (λ b s. (s.0, record { kty = ec2; x = x ∙ ap Some s.1; y = y ∙ ap Some s.2 }, s.3))
    (λ e w. ⊎_elim (λ m. inl m) (λ z. inr (no_coordinates _ _ ec2 x y z)) w) c.write_point.ensures

pub returns-in-None-first_value : goal.returns-in-None-first_value
returns-in-None-first_value c =
    let ec2 = rw c.if-not-is_ec2.false at c.is_ec2.ensures in
    inr (missing ec2 (inr (sym (c.in-None-first_value.ensures ∙ ap (λ z. first_at y_label (map entry_view z)) c.deref-in-Some.ensures.value))) refl)

pub returns-in-None : goal.returns-in-None
returns-in-None c =
    let ec2 = rw c.if-not-is_ec2.false at c.is_ec2.ensures in
    inr (missing ec2 (inl (sym (c.in-None.ensures ∙ ap (λ z. first_at x_label (map entry_view z)) c.deref.ensures.value))) refl)
