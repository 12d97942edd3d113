-- The name of each reason why an item has no value.
use Rattle.std.specs.Prelude.{ℕ, List, codes}
use Rattle.ciborium_value.specs.declared.kind.Kind.{Kind}
use Rattle.ciborium_value.specs.declared.kind.Kind.TheVariants as kind

abbrev pub kind_name : Kind → List ℕ
kind_name kind.Simple = codes "Simple"
kind_name kind.Break = codes "Break"
kind_name kind.BigNegative = codes "BigNegative"
kind_name kind.WrongType = codes "WrongType"
kind_name kind.Range = codes "Range"
kind_name kind.Length = codes "Length"
kind_name kind.Tag = codes "Tag"
