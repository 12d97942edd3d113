-- The entries of a header as they are written.
use Rattle.std.specs.Prelude.{◌≡◌, List, [], ◌∷◌, ◌++◌, map, Option, Some, None}
use Rattle.ciborium_value.specs.Tree.{Tree}
use Rattle.ciborium_value.specs.Encoding.{Fits}
use Rattle.ciborium_value.specs.View.{view_pair}
use Rattle.ciborium_value.specs.declared.value.Value.{Value}
use Rattle.coset_labels.specs.Fields.{LabelFields}
use Rattle.coset_labels.specs.Labels.{label_tree}
use Rattle.coset_headers.specs.Written.{entry_tree}

-- a map has these entries more, at its end
abbrev pub Appends : List (Value × Value) → List (Value × Value) → List (LabelFields × Tree) → Type 0
Appends old new es = map view_pair new ≡ map view_pair old ++ map entry_tree es

-- labels and values fit heads
abbrev pub AllFit : List (LabelFields × Tree) → Type 0
AllFit [] = Unit {0}
AllFit (e ∷ es) = Fits (label_tree e.0) × Fits e.1 × AllFit es

-- the value of a field, if it is there, fits heads
abbrev pub ValueFits : Option Tree → Type 0
ValueFits None = Unit {0}
ValueFits (Some t) = Fits t

abbrev pub ValuesFit : List (Option Tree) → Type 0
ValuesFit [] = Unit {0}
ValuesFit (o ∷ os) = ValueFits o × ValuesFit os
