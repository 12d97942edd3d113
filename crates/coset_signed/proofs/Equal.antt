-- Derived equality of messages is that of what they say.
use Rattle.std.proofs.Common.{◌≡◌, ap}
use Rattle.std.specs.Prelude.{IsTrue, ◌↔◌}
use Rattle.std.specs.Cmp.Lexicographic.{bytes_decides}
use Rattle.coset_labels.specs.Facts.Equal.{lists}
use Rattle.coset_headers.specs.Facts.Decided.{signature_decided}
use Rattle.coset_headers.specs.Same.{same_signature}
use Rattle.coset_headers.specs.View.{header_view, protected_view, signature_view}
use Rattle.coset_recipients.proofs.PartsEqual.{parts_and}
use Rattle.coset_signed.specs.View.{sign1_view, sign_view}
use Rattle.coset_signed.specs.declared.sign.CoseSign.{CoseSign}
use Rattle.coset_signed.specs.declared.sign1.CoseSign1.{CoseSign1}
use Rattle.coset_signed.specs.contracts.sign.CoseSignPartialEq.TheImpl as equality
use Rattle.coset_signed.specs.contracts.sign1.CoseSign1PartialEq.TheImpl as equality1

pub sign1s : (a b : CoseSign1) → IsTrue (equality1.eq-value.it a b) ↔ (sign1_view a ≡ sign1_view b)
sign1s a b =
    let w = parts_and (λ v. v.items) (protected_view a.protected) (protected_view b.protected) (header_view a.unprotected) (header_view b.unprotected) a.payload b.payload _
    (bytes_decides a.signature.items b.signature.items) in (
      λ h. let p = w.0 h in λ i. record { protected = p.0 i; unprotected = p.1.0 i; payload = p.1.1.0 i; signature = p.1.1.1 i },
      λ h. w.1 (ap (λ m. m.protected) h, (ap (λ m. m.unprotected) h, (ap (λ m. m.payload) h, ap (λ m. m.signature) h))),
    )

pub signs : (a b : CoseSign) → IsTrue (equality.eq-value.it a b) ↔ (sign_view a ≡ sign_view b)
signs a b =
    let w = parts_and (λ v. v.items) (protected_view a.protected) (protected_view b.protected) (header_view a.unprotected) (header_view b.unprotected) a.payload b.payload _
    (lists (λ x y. same_signature (signature_view x) (signature_view y)) signature_view
    (λ x y. signature_decided (signature_view x) (signature_view y)) a.signatures.items b.signatures.items) in (
      λ h. let p = w.0 h in λ i. record { protected = p.0 i; unprotected = p.1.0 i; payload = p.1.1.0 i; signatures = p.1.1.1 i },
      λ h. w.1 (ap (λ m. m.protected) h, (ap (λ m. m.unprotected) h, (ap (λ m. m.payload) h, ap (λ m. m.signatures) h))),
    )
