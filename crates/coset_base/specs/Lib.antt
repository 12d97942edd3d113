pub mod Builders
pub mod Contexts
pub mod Covered
pub mod Put
pub mod Structure
pub mod Titles
pub use Rattle.ciborium.specs.Damage
pub use Rattle.ciborium.specs.Front
pub use Rattle.ciborium_value.specs.Canonical
pub use Rattle.ciborium_value.specs.Encoding
pub use Rattle.ciborium_value.specs.Tree
pub use Rattle.ciborium_value.specs.View as ValueView
pub use Rattle.coset_headers.specs.Unsent
pub use Rattle.coset_headers.specs.Fields
pub use Rattle.coset_headers.specs.Headers
pub use Rattle.coset_headers.specs.Received
pub use Rattle.coset_headers.specs.Short
pub use Rattle.coset_headers.specs.View
pub use Rattle.coset_headers.specs.Written
pub use Rattle.coset_headers.specs.Wrong
pub use Rattle.coset_headers.specs.declared.header.CoseSignature
pub use Rattle.coset_headers.specs.declared.header.Header
pub use Rattle.coset_headers.specs.declared.header.ProtectedHeader
pub use Rattle.coset_labels.specs.Arrays
pub use Rattle.coset_labels.specs.Converting
pub use Rattle.coset_labels.specs.Faults
pub use Rattle.coset_labels.specs.Fields as LabelFields
pub use Rattle.coset_labels.specs.Kinds
pub use Rattle.coset_labels.specs.Labels
pub use Rattle.coset_labels.specs.Limits as LimitsView
pub use Rattle.coset_labels.specs.Names
pub use Rattle.coset_labels.specs.Orders
pub use Rattle.coset_labels.specs.Reading
pub use Rattle.coset_labels.specs.ErrorContent
pub use Rattle.coset_labels.specs.View as LabelView
pub use Rattle.coset_labels.specs.declared.error.CoseError
pub use Rattle.coset_labels.specs.declared.error.EndOfFile
pub use Rattle.coset_labels.specs.declared.error.Fault as CallerFault
pub use Rattle.coset_labels.specs.declared.label.Label
pub use Rattle.coset_labels.specs.declared.limits.Limits
pub use Rattle.coset_labels.specs.declared.registered.RegisteredLabel
pub use Rattle.coset_labels.specs.declared.registered.RegisteredLabelWithPrivate
