-- What labels and names of the code say.
use Rattle.std.specs.Prelude.{ℤ, string_bytes}
use Rattle.ciborium_value.specs.Tree.{Tree}
use Rattle.ciborium_value.specs.View.{view}
use Rattle.ciborium_value.specs.declared.value.Value.{Value}
use Rattle.coset_labels.specs.Fields.{LabelFields, number, words, Named, private_use, assigned, named}
use Rattle.coset_labels.specs.declared.label.Label.{Label}
use Rattle.coset_labels.specs.declared.label.Label.TheVariants as label
use Rattle.coset_labels.specs.declared.registered.RegisteredLabel.{RegisteredLabel}
use Rattle.coset_labels.specs.declared.registered.RegisteredLabel.TheVariants as registered
use Rattle.coset_labels.specs.declared.registered.RegisteredLabelWithPrivate.{RegisteredLabelWithPrivate}
use Rattle.coset_labels.specs.declared.registered.RegisteredLabelWithPrivate.TheVariants as open_name

abbrev pub label_view : Label → LabelFields
label_view (label.Int i) = number i
label_view (label.Text s) = words (string_bytes s)

abbrev pub registered_view : {T : Type 0} → (T → ℤ) → RegisteredLabel T → Named
registered_view number_of (registered.Assigned x) = assigned (number_of x)
registered_view number_of (registered.Text s) = named (string_bytes s)

abbrev pub named_view : {T : Type 0} → (T → ℤ) → RegisteredLabelWithPrivate T → Named
named_view number_of (open_name.PrivateUse i) = private_use i
named_view number_of (open_name.Assigned x) = assigned (number_of x)
named_view number_of (open_name.Text s) = named (string_bytes s)

-- an entry of a map: `key` says what its key says
abbrev pub entry_view : {A K : Type 0} → (A → K) → A × Value → K × Tree
entry_view key e = (key e.0, view e.1)
