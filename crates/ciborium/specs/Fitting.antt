-- What each event of a written item keeps to.
use Rattle.std.specs.Prelude.{◌^◌, ◌<◌, ◌≤◌, List, [], ◌∷◌, length, All}
use Rattle.std.specs.Str.{IsUtf8}
use Rattle.ciborium_ll.specs.Title.{FitsHeader}
use Rattle.ciborium_ll.specs.declared.hdr.Header.TheVariants as head
use Rattle.ciborium_value.specs.Encoding.{int_head}
use Rattle.ciborium_typed.specs.Events.{Event, integer, bytes, text, float, simple, tag, array, map}

-- the event's number lies in its range, its string is one, its length is one that a head can have,
-- and a simple value is false, true or null
abbrev pub FitsEvent : Event → Type 0
FitsEvent (integer i) = FitsHeader (int_head i)
FitsEvent (bytes b) = (length b < 2 ^ 64) × All (λ x. x < 256) b
FitsEvent (text b) = (length b < 2 ^ 64) × IsUtf8 b
FitsEvent (float f) = FitsHeader (head.Float f)
FitsEvent (simple n) = (20 ≤ n) × (n ≤ 22)
FitsEvent (tag n) = n < 2 ^ 64
FitsEvent (array n) = n < 2 ^ 64
FitsEvent (map n) = n < 2 ^ 64

abbrev pub EachFits : List Event → Type 0
EachFits [] = Unit {0}
EachFits (e ∷ es) = FitsEvent e × EachFits es
