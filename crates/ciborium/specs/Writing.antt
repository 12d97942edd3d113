-- What the contracts of the writer cite: the bytes of each event that a sink is given of an item
-- (RFC 8949, section 4.1).
use Rattle.std.specs.Prelude.{◌≡◌, ℕ, ◌+◌, List, [], ◌∷◌, ◌++◌, length, Option, Some}
use Rattle.std.specs.Io.KnownBytes.{Appends}
use Rattle.ciborium_ll.specs.Device.{AppendsFront}
use Rattle.ciborium_ll.specs.Title.{title_of}
use Rattle.ciborium_ll.specs.declared.hdr.Header.TheVariants.{Simple, Tag, Bytes, Text, Array, Map}
use Rattle.ciborium_ll.specs.declared.hdr.Header.TheVariants as head
use Rattle.ciborium_value.specs.Encoding.{int_head}
use Rattle.ciborium_typed.specs.Events.{Event, integer, bytes, text, float, simple, tag, array, map}
use Rattle.ciborium.specs.declared.ser.Error.{Error}
use Rattle.ciborium.specs.declared.ser.Error.TheVariants.{Io, Value, Memory}

-- the writer's own fault
abbrev pub IsIo : {T : Type 0} → Error T → Type 0
IsIo (Io e) = Unit {0}
IsIo (Value k) = ⊥
IsIo Memory = ⊥

-- the canonical encoding of a leaf, or the shortest head of a tag, an array or a map
abbrev pub event_text : Event → List ℕ
event_text (integer i) = title_of (int_head i)
event_text (bytes b) = title_of (Bytes (Some (length b))) ++ b
event_text (text b) = title_of (Text (Some (length b))) ++ b
event_text (float f) = title_of (head.Float f)
event_text (simple n) = title_of (Simple n)
event_text (tag n) = title_of (Tag n)
event_text (array n) = title_of (Array (Some n))
event_text (map n) = title_of (Map (Some n))

-- a writer took a whole text; it was lent and comes back as itself, and it did not fail
abbrev pub IsWritten : {W : Type 0} → (W → Option (List ℕ)) → (W → List ℕ) → (W → ℕ) → W → List ℕ → W → Type 0
IsWritten written handle failed w whole w2 = Appends (written w) (written w2) whole × (handle w2 ≡ handle w) × (failed w2 ≡ failed w)

-- a writer failed and took a beginning of a text
abbrev pub IsTorn : {W : Type 0} → (W → Option (List ℕ)) → (W → List ℕ) → (W → ℕ) → W → List ℕ → W → Type 0
IsTorn written handle failed w whole w2 = AppendsFront (written w) (written w2) whole × (handle w2 ≡ handle w) × (failed w2 ≡ failed w + 1)

-- once these events are written, one after another, the text is written since the start; if the
-- writer fails at one of them, it has a beginning of the text
abbrev pub IsDue : {W : Type 0} → (W → Option (List ℕ)) → (W → List ℕ) → (W → ℕ) → W → List ℕ → List Event → W → Type 0
IsDue written handle failed start whole [] w = IsWritten written handle failed start whole w
IsDue {W} written handle failed start whole (e ∷ es) w =
    ((w2 : W) → IsWritten written handle failed w (event_text e) w2 → IsDue written handle failed start whole es w2)
    × ((w2 : W) → IsTorn written handle failed w (event_text e) w2 → IsTorn written handle failed start whole w2)
