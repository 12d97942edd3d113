-- The fields that encrypted messages of the code have.
use Rattle.std.specs.Prelude.{option_map}
use Rattle.coset_headers.specs.View.{header_view, protected_view}
use Rattle.coset_recipients.specs.View.{recipients_view}
use Rattle.coset_encrypted.specs.Fields.{Encrypt0Fields, EncryptFields}
use Rattle.coset_encrypted.specs.declared.encrypt0.CoseEncrypt0.{CoseEncrypt0}
use Rattle.coset_encrypted.specs.declared.encrypt.CoseEncrypt.{CoseEncrypt}

abbrev pub encrypt0_view : CoseEncrypt0 → Encrypt0Fields
encrypt0_view m = record {
  protected = protected_view m.protected;
  unprotected = header_view m.unprotected;
  ciphertext = option_map (λ v. v.items) m.ciphertext;
}

abbrev pub encrypt_view : CoseEncrypt → EncryptFields
encrypt_view m = record {
  protected = protected_view m.protected;
  unprotected = header_view m.unprotected;
  ciphertext = option_map (λ v. v.items) m.ciphertext;
  recipients = recipients_view m.recipients.items;
}
