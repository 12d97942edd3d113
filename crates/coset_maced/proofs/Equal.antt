-- Derived equality of messages is that of what they say.
use Rattle.std.proofs.Common.{◌≡◌, ap}
use Rattle.std.specs.Prelude.{IsTrue, ◌↔◌}
use Rattle.std.specs.Cmp.Lexicographic.{bytes_decides}
use Rattle.coset_labels.specs.Facts.Equal.{both}
use Rattle.coset_headers.specs.View.{header_view, protected_view}
use Rattle.coset_recipients.proofs.PartsEqual.{parts_and}
use Rattle.coset_recipients.proofs.Equal.{all_equal}
use Rattle.coset_maced.specs.View.{mac0_view, mac_view}
use Rattle.coset_maced.specs.declared.mac.CoseMac.{CoseMac}
use Rattle.coset_maced.specs.declared.mac0.CoseMac0.{CoseMac0}
use Rattle.coset_maced.specs.contracts.mac.CoseMacPartialEq.TheImpl as equality
use Rattle.coset_maced.specs.contracts.mac0.CoseMac0PartialEq.TheImpl as equality0

pub mac0s : (a b : CoseMac0) → IsTrue (equality0.eq-value.it a b) ↔ (mac0_view a ≡ mac0_view b)
mac0s a b =
    let w = parts_and (λ v. v.items) (protected_view a.protected) (protected_view b.protected) (header_view a.unprotected) (header_view b.unprotected) a.payload b.payload _
    (bytes_decides a.tag.items b.tag.items) in (
      λ h. let p = w.0 h in λ i. record { protected = p.0 i; unprotected = p.1.0 i; payload = p.1.1.0 i; tag = p.1.1.1 i },
      λ h. w.1 (ap (λ m. m.protected) h, (ap (λ m. m.unprotected) h, (ap (λ m. m.payload) h, ap (λ m. m.tag) h))),
    )

pub macs : (a b : CoseMac) → IsTrue (equality.eq-value.it a b) ↔ (mac_view a ≡ mac_view b)
macs a b =
    let w = parts_and (λ v. v.items) (protected_view a.protected) (protected_view b.protected) (header_view a.unprotected) (header_view b.unprotected) a.payload b.payload _
    (both _ _ (bytes_decides a.tag.items b.tag.items) (all_equal a.recipients.items b.recipients.items)) in (
      λ h. let p = w.0 h in λ i. record { protected = p.0 i; unprotected = p.1.0 i; payload = p.1.1.0 i; tag = p.1.1.1.0 i; recipients = p.1.1.1.1 i },
      λ h. w.1 (ap (λ m. m.protected) h, (ap (λ m. m.unprotected) h, (ap (λ m. m.payload) h, (ap (λ m. m.tag) h, ap (λ m. m.recipients) h)))),
    )
