pub use Rattle.coset_base.specs.Damage
pub use Rattle.coset_base.specs.Front
pub use Rattle.coset_base.specs.Canonical
pub use Rattle.coset_base.specs.Encoding
pub use Rattle.coset_base.specs.Tree
pub use Rattle.coset_base.specs.ValueView
pub use Rattle.coset_base.specs.Builders
pub use Rattle.coset_base.specs.declared.header_builder.HeaderBuilder
pub use Rattle.coset_base.specs.declared.signature_builder.CoseSignatureBuilder
pub use Rattle.coset_base.specs.Unsent
pub use Rattle.coset_base.specs.Contexts
pub use Rattle.coset_base.specs.Covered
pub use Rattle.coset_base.specs.Fields
pub use Rattle.coset_base.specs.Headers
pub use Rattle.coset_base.specs.Short
pub use Rattle.coset_base.specs.Structure
pub use Rattle.coset_base.specs.Titles
pub use Rattle.coset_base.specs.View
pub use Rattle.coset_base.specs.Written
pub use Rattle.coset_base.specs.Wrong
pub use Rattle.coset_base.specs.declared.context.EncryptionContext
pub use Rattle.coset_base.specs.declared.context.MacContext
pub use Rattle.coset_base.specs.declared.context.SignatureContext
pub use Rattle.coset_base.specs.CoseSignature
pub use Rattle.coset_base.specs.Header
pub use Rattle.coset_base.specs.ProtectedHeader
pub use Rattle.coset_base.specs.Arrays
pub use Rattle.coset_base.specs.Converting
pub use Rattle.coset_base.specs.Faults
pub use Rattle.coset_base.specs.LabelFields
pub use Rattle.coset_base.specs.Kinds
pub use Rattle.coset_base.specs.Labels
pub use Rattle.coset_base.specs.LimitsView
pub use Rattle.coset_base.specs.Names
pub use Rattle.coset_base.specs.Orders
pub use Rattle.coset_base.specs.Reading
pub use Rattle.coset_base.specs.ErrorContent
pub use Rattle.coset_base.specs.LabelView
pub use Rattle.coset_base.specs.CoseError
pub use Rattle.coset_base.specs.EndOfFile
pub use Rattle.coset_base.specs.CallerFault
pub use Rattle.coset_base.specs.Label
pub use Rattle.coset_base.specs.Limits
pub use Rattle.coset_base.specs.RegisteredLabel
pub use Rattle.coset_base.specs.RegisteredLabelWithPrivate
pub use Rattle.coset_maced.specs.Calls
pub use Rattle.coset_maced.specs.PartShapes
pub use Rattle.coset_maced.specs.PartsShort
pub use Rattle.coset_maced.specs.PartsWritten
pub use Rattle.coset_maced.specs.WrongParts
pub use Rattle.coset_maced.specs.RecipientBuilders
pub use Rattle.coset_maced.specs.RecipientFields
pub use Rattle.coset_maced.specs.RecipientShapes
pub use Rattle.coset_maced.specs.RecipientShort
pub use Rattle.coset_maced.specs.RecipientStructure
pub use Rattle.coset_maced.specs.RecipientView
pub use Rattle.coset_maced.specs.RecipientWritten
pub use Rattle.coset_maced.specs.WrongRecipient
pub use Rattle.coset_maced.specs.CoseRecipient
pub use Rattle.coset_maced.specs.CoseRecipientBuilder
pub use Rattle.coset_signed.specs.Added
pub use Rattle.coset_signed.specs.Fields as SignedFields
pub use Rattle.coset_signed.specs.Shapes as SignedShapes
pub use Rattle.coset_signed.specs.Short as SignedShort
pub use Rattle.coset_signed.specs.Structure as SignedStructure
pub use Rattle.coset_signed.specs.Builders as SignedBuilders
pub use Rattle.coset_signed.specs.View as SignedView
pub use Rattle.coset_signed.specs.Written as SignedWritten
pub use Rattle.coset_signed.specs.Wrong as WrongSigned
pub use Rattle.coset_signed.specs.declared.sign1.CoseSign1
pub use Rattle.coset_signed.specs.declared.sign1_builder.CoseSign1Builder
pub use Rattle.coset_signed.specs.declared.sign.CoseSign
pub use Rattle.coset_signed.specs.declared.sign_builder.CoseSignBuilder
pub use Rattle.coset_maced.specs.Builders as MacedBuilders
pub use Rattle.coset_maced.specs.Fields as MacedFields
pub use Rattle.coset_maced.specs.Shapes as MacedShapes
pub use Rattle.coset_maced.specs.Short as MacedShort
pub use Rattle.coset_maced.specs.Structure as MacedStructure
pub use Rattle.coset_maced.specs.View as MacedView
pub use Rattle.coset_maced.specs.Written as MacedWritten
pub use Rattle.coset_maced.specs.Wrong as WrongMaced
pub use Rattle.coset_maced.specs.declared.mac0.CoseMac0
pub use Rattle.coset_maced.specs.declared.mac0_builder.CoseMac0Builder
pub use Rattle.coset_maced.specs.declared.mac.CoseMac
pub use Rattle.coset_maced.specs.declared.mac_builder.CoseMacBuilder
pub use Rattle.coset_encrypted.specs.Builders as EncryptedBuilders
pub use Rattle.coset_encrypted.specs.Fields as EncryptedFields
pub use Rattle.coset_encrypted.specs.Shapes as EncryptedShapes
pub use Rattle.coset_encrypted.specs.Short as EncryptedShort
pub use Rattle.coset_encrypted.specs.Structure as EncryptedStructure
pub use Rattle.coset_encrypted.specs.View as EncryptedView
pub use Rattle.coset_encrypted.specs.Written as EncryptedWritten
pub use Rattle.coset_encrypted.specs.Wrong as WrongEncrypted
pub use Rattle.coset_encrypted.specs.declared.encrypt0.CoseEncrypt0
pub use Rattle.coset_encrypted.specs.declared.encrypt0_builder.CoseEncrypt0Builder
pub use Rattle.coset_encrypted.specs.declared.encrypt.CoseEncrypt
pub use Rattle.coset_encrypted.specs.declared.encrypt_builder.CoseEncryptBuilder
