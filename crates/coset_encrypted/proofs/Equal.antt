-- Derived equality of messages is that of what they say.
use Rattle.std.proofs.Common.{◌≡◌, ap}
use Rattle.std.specs.Prelude.{IsTrue, ◌↔◌}
use Rattle.coset_labels.specs.Facts.Equal.{both, bytes_options}
use Rattle.coset_headers.specs.Facts.Decided.{headers_decided, protected_decided}
use Rattle.coset_headers.specs.View.{header_view, protected_view}
use Rattle.coset_recipients.proofs.PartsEqual.{parts_and}
use Rattle.coset_recipients.proofs.Equal.{all_equal}
use Rattle.coset_encrypted.specs.View.{encrypt0_view, encrypt_view}
use Rattle.coset_encrypted.specs.declared.encrypt.CoseEncrypt.{CoseEncrypt}
use Rattle.coset_encrypted.specs.declared.encrypt0.CoseEncrypt0.{CoseEncrypt0}
use Rattle.coset_encrypted.specs.contracts.encrypt.CoseEncryptPartialEq.TheImpl as equality
use Rattle.coset_encrypted.specs.contracts.encrypt0.CoseEncrypt0PartialEq.TheImpl as equality0

pub encrypt0s : (a b : CoseEncrypt0) → IsTrue (equality0.eq-value.it a b) ↔ (encrypt0_view a ≡ encrypt0_view b)
encrypt0s a b =
    let w = both _ _ (protected_decided (protected_view a.protected) (protected_view b.protected))
    (both _ _ (headers_decided (header_view a.unprotected) (header_view b.unprotected))
    (bytes_options (λ v. v.items) a.ciphertext b.ciphertext)) in (
      λ h. let p = w.0 h in λ i. record { protected = p.0 i; unprotected = p.1.0 i; ciphertext = p.1.1 i },
      λ h. w.1 (ap (λ m. m.protected) h, (ap (λ m. m.unprotected) h, ap (λ m. m.ciphertext) h)),
    )

pub encrypts : (a b : CoseEncrypt) → IsTrue (equality.eq-value.it a b) ↔ (encrypt_view a ≡ encrypt_view b)
encrypts a b =
    let w = parts_and (λ v. v.items) (protected_view a.protected) (protected_view b.protected) (header_view a.unprotected) (header_view b.unprotected) a.ciphertext b.ciphertext _
    (all_equal a.recipients.items b.recipients.items) in (
      λ h. let p = w.0 h in λ i. record { protected = p.0 i; unprotected = p.1.0 i; ciphertext = p.1.1.0 i; recipients = p.1.1.1 i },
      λ h. w.1 (ap (λ m. m.protected) h, (ap (λ m. m.unprotected) h, (ap (λ m. m.ciphertext) h, ap (λ m. m.recipients) h))),
    )
