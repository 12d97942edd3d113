-- The fields that parts of the code have.
use Rattle.std.specs.Prelude.{ℕ, [], ◌∷◌, Option, option_map}
use Rattle.std.specs.Global.{Vec}
use Rattle.ciborium_value.specs.Tree.{Tree, array}
use Rattle.ciborium_value.specs.View.{view, trees}
use Rattle.ciborium_value.specs.declared.value.Value.{Value}
use Rattle.coset_headers.specs.View.{header_view, protected_view}
use Rattle.coset_headers.specs.declared.header.Header.{Header}
use Rattle.coset_headers.specs.declared.header.ProtectedHeader.{ProtectedHeader}
use Rattle.coset_recipients.specs.PartsFields.{PartsFields, parts}
use Rattle.coset_recipients.specs.declared.parts.Parts.{Parts}
use Rattle.coset_recipients.specs.declared.parts.PartValues.{PartValues}

-- the parts from a protected header, an unprotected one, and bytes or none
abbrev pub parts_in : ProtectedHeader → Header → Option (Vec ℕ) → PartsFields
parts_in p u c = parts (protected_view p) (header_view u) (option_map (λ v. v.items) c)

abbrev pub parts_view : Parts → PartsFields
parts_view p = parts_in p.protected p.unprotected p.content

-- the array of the parts' values and of one more
abbrev pub four_of : PartValues → Value → Tree
four_of p last =
    array (trees (view p.protected ∷ view p.unprotected ∷ view p.content ∷ view last ∷ []))
