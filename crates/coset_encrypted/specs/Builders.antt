-- What builders have so far.
use Rattle.std.specs.Prelude.{ℕ, Option}
use Rattle.std.specs.Global.{Vec}
use Rattle.coset_encrypted.specs.Fields.{Encrypt0Fields, EncryptFields}
use Rattle.coset_encrypted.specs.View.{encrypt0_view, encrypt_view}
use Rattle.coset_encrypted.specs.declared.encrypt0_builder.CoseEncrypt0Builder.{CoseEncrypt0Builder}
use Rattle.coset_encrypted.specs.declared.encrypt_builder.CoseEncryptBuilder.{CoseEncryptBuilder}

abbrev pub encrypt0_so_far : CoseEncrypt0Builder → Encrypt0Fields
encrypt0_so_far b = encrypt0_view b.message

abbrev pub encrypt_so_far : CoseEncryptBuilder → EncryptFields
encrypt_so_far b = encrypt_view b.message

abbrev pub encrypt0_ciphertext : CoseEncrypt0Builder → Option (Vec ℕ)
encrypt0_ciphertext b = b.message.ciphertext

abbrev pub encrypt_ciphertext : CoseEncryptBuilder → Option (Vec ℕ)
encrypt_ciphertext b = b.message.ciphertext
