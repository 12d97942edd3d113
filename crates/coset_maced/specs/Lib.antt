pub mod AsWritten
pub mod Builders
pub mod Fields
pub mod Put
pub mod Shapes
pub mod Short
pub mod Structure
pub mod View
pub mod Written
pub mod Wrong
pub use Rattle.coset_recipients.specs.PartShapes
pub use Rattle.coset_recipients.specs.PartsShort
pub use Rattle.coset_recipients.specs.PartsWritten
pub use Rattle.coset_recipients.specs.WrongParts
pub use Rattle.coset_recipients.specs.Calls
pub use Rattle.coset_recipients.specs.Builders as RecipientBuilders
pub use Rattle.coset_recipients.specs.Fields as RecipientFields
pub use Rattle.coset_recipients.specs.Shapes as RecipientShapes
pub use Rattle.coset_recipients.specs.Short as RecipientShort
pub use Rattle.coset_recipients.specs.Structure as RecipientStructure
pub use Rattle.coset_recipients.specs.View as RecipientView
pub use Rattle.coset_recipients.specs.Written as RecipientWritten
pub use Rattle.coset_recipients.specs.Wrong as WrongRecipient
pub use Rattle.coset_recipients.specs.declared.recipient.CoseRecipient
pub use Rattle.coset_recipients.specs.declared.builder.CoseRecipientBuilder
