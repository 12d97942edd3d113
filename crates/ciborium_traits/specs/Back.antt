-- What is written and taken back.
use Rattle.std.specs.Prelude.{◌≡◌, Option, Some, None}
use Rattle.ciborium_value.specs.declared.kind.Kind.{Kind}
use Rattle.ciborium_value.specs.Tree.{Tree}
use Rattle.ciborium_value.specs.Folding.{fold}
use Rattle.ciborium_traits.specs.declared.ser.Serialize.{Ghosts as Writing}
use Rattle.ciborium_traits.specs.declared.de.Deserialize.{Ghosts as Taking}

-- the item that x is put as is folded and not refused, and x is taken from it
abbrev pub TakenBackBy : {T : Type 0} → (T → Tree) → (Tree → Option Kind) → (Tree → T → Type 0) → T → Type 0
TakenBackBy put refusal takes x = (fold (put x) ≡ Some (put x)) × (refusal (put x) ≡ None) × takes (put x) x

-- the same by what a type says of its writing and of its reading: `T.Serialize` and `T.Deserialize`
abbrev pub IsTakenBack : {T : Type 0} → Writing T → Taking T → T → Type 0
IsTakenBack writing taking x = TakenBackBy writing.put taking.refusal taking.takes x

-- what is taken from an item is one value, up to what it is written as
abbrev pub TakesOne : {T : Type 0} → (T → Tree) → (Tree → T → Type 0) → Type 0
TakesOne {T} put takes = (t : Tree) (x y : T) → takes t x → takes t y → put x ≡ put y
