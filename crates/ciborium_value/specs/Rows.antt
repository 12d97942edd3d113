-- The types that a `Value` holds, as the logic names them, for the clauses on what a `&mut` lends.
use Rattle.std.specs.Borrow.{u8}
use Rattle.std.specs.Prelude.{[], ◌∷◌}
use denote.RattleType.{RattleType}
use denote.Struct.Tuple.{Tuple}
use Rattle.std.specs.contracts.alloc.Global as global
use Rattle.std.specs.contracts.string.String as string
use Rattle.std.specs.contracts.vec.Vec as vec
use Rattle.std.specs.contracts.impls.GlobalAllocator.TheImpl.{ghosts}
use Rattle.ciborium_value.specs.contracts.value.Value.{the_row}

-- a Vec<u8>
abbrev pub bytes_row : RattleType
bytes_row = vec.the_row u8 global.the_row ghosts

-- a String
abbrev pub text_row : RattleType
text_row = string.the_row global.the_row ghosts

-- a Vec<Value>
abbrev pub items_row : RattleType
items_row = vec.the_row the_row global.the_row ghosts

-- a Vec<(Value, Value)>
abbrev pub entries_row : RattleType
entries_row = vec.the_row (Tuple (the_row ∷ the_row ∷ [])) global.the_row ghosts
