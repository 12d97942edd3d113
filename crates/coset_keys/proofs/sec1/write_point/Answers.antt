use Rattle.std.proofs.Common.{inr, refl, ap, ◌∷◌, ◌++◌, ◌∙◌}
use Rattle.ciborium_value.specs.View.{view}
use Rattle.ciborium_value.proofs.Views.{view_bytes}
use Rattle.coset_keys.specs.Points.{signed, both, sign_byte, unequal}
use Rattle.coset_keys.proofs.Coordinates.{view_bool, lengths_differ, lengths_agree}
use Rattle.coset_keys.proofs.sec1.write_point.Goals as goal

pub returns-then-len : goal.returns-then-len
returns-then-len c =
    inr (unequal c.in-Bytes.x.items c.in-Bytes-y.y.items (ap view c.in-Bytes.is ∙ view_bytes c.in-Bytes.x) (ap view c.in-Bytes-y.is ∙ view_bytes c.in-Bytes-y.y)
    (lengths_differ c.in-Bytes.x c.in-Bytes-y.y _ _ c.len.ensures c.len-in-Bytes-y.ensures c.if-len.true) refl)

pub returns-in_ok-write_signed-in-Bool : goal.returns-in_ok-write_signed-in-Bool
returns-in_ok-write_signed-in-Bool c = (
  signed c.in-Bytes.x.items c.in-Bool.sign,
  ap view c.in-Bytes.is ∙ view_bytes c.in-Bytes.x,
  ap view c.in-Bool.is ∙ view_bool c.in-Bool.sign,
  c.in_ok-write_signed-in-Bool.ensures ∙ ap (λ z. sign_byte c.in-Bool.sign ∷ z) c.deref.ensures.value,
)

pub returns-in_ok-write_both-in-Bytes-y : goal.returns-in_ok-write_both-in-Bytes-y
returns-in_ok-write_both-in-Bytes-y c = (
  both c.in-Bytes.x.items c.in-Bytes-y.y.items,
  ap view c.in-Bytes.is ∙ view_bytes c.in-Bytes.x,
  ap view c.in-Bytes-y.is ∙ view_bytes c.in-Bytes-y.y,
  (
    c.in_ok-write_both-in-Bytes-y.ensures ∙ (λ i. 4 ∷ (c.deref-in-Bytes-y.ensures.value i ++ c.deref-in-Bytes-y-2.ensures.value i)),
    lengths_agree c.in-Bytes.x c.in-Bytes-y.y _ _ c.len.ensures c.len-in-Bytes-y.ensures c.if-len.false,
  ),
)
