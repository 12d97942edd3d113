pub mod Anew
pub mod Asked
pub mod Calls
pub mod Findings
pub mod Fixed
pub mod GateRun
pub mod Lent
pub mod Misshapen
pub mod Narrow
pub mod Next
pub mod Outcome
pub mod Output
pub mod Passing
pub mod Put
pub mod Questions
pub mod ReasonNames
pub mod Received
pub mod Recorded
pub mod Run
pub mod Runs
pub mod Terms
pub use Rattle.ciborium_ll.specs.Fault as DeviceFault
pub use Rattle.ciborium_ll.specs.Framing
pub use Rattle.ciborium_ll.specs.Title
pub use Rattle.ciborium_ll.specs.Views
pub use Rattle.ciborium_ll.specs.declared.hdr.Header as Head
pub use Rattle.ciborium_value.specs.Encoding
pub use Rattle.ciborium_value.specs.Tree
pub use Rattle.ciborium_value.specs.declared.kind.Kind as SemanticKind
pub use Rattle.ciborium.specs.Damage
pub use Rattle.ciborium.specs.Front
pub use Rattle.ciborium.specs.Items
pub use Rattle.ciborium.specs.Meaning
pub use Rattle.ciborium.specs.Reading
pub use Rattle.ciborium.specs.Spelling
pub use Rattle.ciborium.specs.declared.de.Error as ReadError
pub use Rattle.coset_labels.specs.Faults
pub use Rattle.coset_headers.specs.Fields
pub use Rattle.coset_labels.specs.Fields as LabelFields
pub use Rattle.coset_headers.specs.Headers
pub use Rattle.coset_base.specs.Structure
pub use Rattle.coset_labels.specs.Kinds
pub use Rattle.coset_labels.specs.Labels
pub use Rattle.coset_labels.specs.Limits as CodeLimits
pub use Rattle.coset_labels.specs.View as LabelView
pub use Rattle.coset_headers.specs.View as HeaderView
pub use Rattle.coset_headers.specs.Written
pub use Rattle.coset_headers.specs.Wrong
pub use Rattle.coset_labels.specs.declared.error.CoseError
pub use Rattle.coset_headers.specs.declared.header.Header
pub use Rattle.coset_headers.specs.declared.header.ProtectedHeader
pub use Rattle.coset_maced.specs.PartShapes
pub use Rattle.coset_maced.specs.PartsWritten
pub use Rattle.coset_maced.specs.WrongParts
pub use Rattle.coset_maced.specs.RecipientFields
pub use Rattle.coset_maced.specs.RecipientShapes
pub use Rattle.coset_maced.specs.RecipientView
pub use Rattle.coset_maced.specs.RecipientWritten as RecipientsWritten
pub use Rattle.coset_maced.specs.WrongRecipient as WrongRecipients
pub use Rattle.coset_maced.specs.CoseRecipient
pub use Rattle.coset_maced.specs.Fields as MacedFields
pub use Rattle.coset_maced.specs.Shapes as MacedShapes
pub use Rattle.coset_maced.specs.Structure as MacedStructure
pub use Rattle.coset_maced.specs.View as MacedView
pub use Rattle.coset_maced.specs.Written as MacedWritten
pub use Rattle.coset_maced.specs.Wrong as WrongMaced
pub use Rattle.coset_signed.specs.Fields as SignedFields
pub use Rattle.coset_signed.specs.Shapes as SignedShapes
pub use Rattle.coset_signed.specs.Structure as SignedStructure
pub use Rattle.coset_signed.specs.View as SignedView
pub use Rattle.coset_signed.specs.Written as SignedWritten
pub use Rattle.coset_signed.specs.Wrong as WrongSigned
