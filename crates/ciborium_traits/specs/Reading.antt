-- What typed reading says of an item.
use Rattle.std.specs.Prelude.{◌≡◌, Bool, true, false, IsTrue, Option, Some, None}
use Rattle.ciborium_value.specs.declared.kind.Kind.{Kind}
use Rattle.ciborium_value.specs.declared.kind.Kind.TheVariants.{WrongType}
use Rattle.ciborium_value.specs.Tree.{Tree, tag}
use Rattle.ciborium_traits.specs.declared.error.Error.{Error}
use Rattle.ciborium_traits.specs.declared.error.Error.TheVariants as error

-- the item without the tags around it
abbrev pub bare : Tree → Tree
bare (tag n t) = bare t
bare t = t

-- an error says why a type does not take an item, or, of a type that grows, that it is out of
-- memory
abbrev pub IsRefusal : Bool → Option Kind → Error → Type 0
IsRefusal grows why (error.Kind k) = why ≡ Some k
IsRefusal grows why error.Memory = IsTrue grows

-- an item of another kind is refused as one of another type
abbrev pub unless : Bool → Option Kind
unless true = None
unless false = Some WrongType
