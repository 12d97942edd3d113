-- The texts of contexts (RFC 9052, sections 4.4, 5.3 and 6.3).
use Rattle.std.specs.Prelude.{ℕ, List, codes}
use Rattle.coset_base.specs.declared.context.SignatureContext.{SignatureContext}
use Rattle.coset_base.specs.declared.context.SignatureContext.TheVariants as signature
use Rattle.coset_base.specs.declared.context.MacContext.{MacContext}
use Rattle.coset_base.specs.declared.context.MacContext.TheVariants as mac
use Rattle.coset_base.specs.declared.context.EncryptionContext.{EncryptionContext}
use Rattle.coset_base.specs.declared.context.EncryptionContext.TheVariants as encryption

abbrev pub signature_text : SignatureContext → List ℕ
signature_text signature.CoseSignature = codes "Signature"
signature_text signature.CoseSign1 = codes "Signature1"
signature_text signature.CounterSignature = codes "CounterSignature"

abbrev pub mac_text : MacContext → List ℕ
mac_text mac.CoseMac = codes "MAC"
mac_text mac.CoseMac0 = codes "MAC0"

abbrev pub encryption_text : EncryptionContext → List ℕ
encryption_text encryption.CoseEncrypt = codes "Encrypt"
encryption_text encryption.CoseEncrypt0 = codes "Encrypt0"
encryption_text encryption.EncRecipient = codes "Enc_Recipient"
encryption_text encryption.MacRecipient = codes "Mac_Recipient"
encryption_text encryption.RecRecipient = codes "Rec_Recipient"
