-- What the titles and the elements of a message show, each over its own bytes.
use Rattle.std.specs.Prelude.{◌≡◌, ◌≢◌, ℕ, ◌<◌, ◌≤◌, ◌⊎◌, List, ◌∷◌, ◌++◌, length, Option, Some, None, false, Result}
use Rattle.ciborium_ll.specs.declared.hdr.Header.{Header}
use Rattle.ciborium_ll.specs.declared.hdr.Header.TheVariants.{Simple, Tag, Bytes, Array, Break}
use Rattle.ciborium_ll.specs.declared.write.Write.{Ghosts as Writes}
use Rattle.ciborium_ll.specs.Reading.{Starts}
use Rattle.ciborium_ll.specs.Title.{Begins}
use Rattle.ciborium_value.specs.Tree.{Tree, is_bytes}
use Rattle.ciborium.specs.Front.{Reads, Front}
use Rattle.ciborium.specs.Damage.{end, TitleDamage}
use Rattle.ciborium.specs.Damaged.{Damaged}
use Rattle.coset_labels.specs.Faults.{CoseFault, fault_of, unexpected}
use Rattle.cose_gate.specs.declared.fault.StreamFault.{StreamFault}
use Rattle.cose_gate.specs.declared.fault.StreamFault.TheVariants as fault
use Rattle.cose_gate.specs.declared.titles.Payload.{Payload}
use Rattle.cose_gate.specs.declared.titles.Payload.TheVariants as payload
use Rattle.cose_gate.specs.Stated.{IsSingleTag, IsFour, Cut}
use Rattle.cose_gate.specs.StreamFaults.{Why, damaged, untagged, tagged, shape, without_payload, without_length, refused}
use Rattle.cose_gate.specs.Streaming.{WritesAll}

-- the next title
abbrev pub TitleFault : ℕ → List ℕ → Why → Type 0
TitleFault stop b (damaged f) = TitleDamage stop b f
TitleFault stop b e = ⊥

-- the first title
abbrev pub TagFault : ℕ → List ℕ → Why → Type 0
TagFault stop b (damaged f) = TitleDamage stop b f
TagFault stop b untagged = (h : Header) × (rest : List ℕ) × Begins b h rest × ((n : ℕ) → h ≢ Tag n)
TagFault stop b (tagged n) = (rest : List ℕ) × Begins b (Tag n) rest × (IsSingleTag n → ⊥)
TagFault stop b e = ⊥

-- the title of the array
abbrev pub FourFault : ℕ → List ℕ → Why → Type 0
FourFault stop b (damaged f) = TitleDamage stop b f
FourFault stop b (shape e) =
    (e ≡ unexpected) × ((h : Header) × (rest : List ℕ) × Begins b h rest
    × ((o : Option ℕ) → IsFour o → h ≢ Array o))
FourFault stop b e = ⊥

abbrev pub NoBreak : List ℕ → Type 0
NoBreak b = (r : List ℕ) → b ≢ 255 ∷ r

-- an element of the array that may open so many levels: damaged, a break in its place, or one that
-- is wrong
abbrev pub PartFault : ℕ → (CoseFault → Tree → Type 0) → ℕ → List ℕ → Why → Type 0
PartFault limit Wrong stop b (damaged f) = NoBreak b × Damaged stop b limit f
PartFault limit Wrong stop b (shape e) =
    ((e ≡ unexpected) × ((r : List ℕ) × (b ≡ 255 ∷ r)))
    ⊎ ((v : Tree) × (rest : List ℕ) × Front b limit v rest × Wrong e v)
PartFault limit Wrong stop b refused = Unit {0}
PartFault limit Wrong stop b e = ⊥

-- an element that may be any item
abbrev pub NoneWrong : CoseFault → Tree → Type 0
NoneWrong e v = ⊥

-- an element that should be a byte string
abbrev pub NoBytes : CoseFault → Tree → Type 0
NoBytes e v = (e ≡ unexpected) × (is_bytes v ≡ false)

-- an item of at most so many levels with these fields
abbrev pub IsPart : ℕ → (Tree → Type 0) → List ℕ → Type 0
IsPart limit Has b = (v : Tree) × Reads b limit v × Has v

abbrev pub WrongPart : (Tree → CoseFault → Type 0) → CoseFault → Tree → Type 0
WrongPart Wrong e v = Wrong v e

-- the title of the payload
abbrev pub SizeFault : ℕ → List ℕ → Why → Type 0
SizeFault stop b (damaged f) = TitleDamage stop b f
SizeFault stop b (shape e) =
    (e ≡ unexpected) × ((h : Header) × (rest : List ℕ) × Begins b h rest
    × ((o : Option ℕ) → h ≢ Bytes o) × (h ≢ Simple 22) × (h ≢ Simple 23))
SizeFault stop b without_payload =
    ((rest : List ℕ) × Begins b (Simple 22) rest) ⊎ ((rest : List ℕ) × Begins b (Simple 23) rest)
SizeFault stop b without_length = (rest : List ℕ) × Begins b (Bytes None) rest
SizeFault stop b e = ⊥

-- fewer than n bytes are left, or it is out of memory to the judge
abbrev pub ShortFault : ℕ → List ℕ → Why → Type 0
ShortFault n b (damaged end) = length b < n
ShortFault n b refused = Unit {0}
ShortFault n b e = ⊥

-- the bytes that come next, at most n, were written; or a beginning of them, and then the writer
-- failed
pub record CopiedNext {W F : Type 0} (w : Writes W F) (old new : W) (left : Option (List ℕ))
    (n : ℕ) : Type 0 where
  pub answer : Result (Unit {0}) F
  pub text : List ℕ
  pub written : WritesAll w old new answer text
  pub next : Starts left text
  pub fits : length text ≤ n

-- the end of an open array
abbrev pub CloseFault : ℕ → List ℕ → Why → Type 0
CloseFault stop b (damaged f) = TitleDamage stop b f
CloseFault stop b (shape e) =
    (e ≡ unexpected) × ((h : Header) × (rest : List ℕ) × Begins b h rest × (h ≢ Break))
CloseFault stop b e = ⊥

-- the lengths have grown by those of n bytes that were cut by the space
abbrev pub Split : ℕ → ℕ → List ℕ → List ℕ → Type 0
Split n room old new = (pieces : List ℕ) × (new ≡ old ++ pieces) × Cut room n pieces

-- a fault of shape: an item that was not expected
abbrev pub IsUnexpected : {E : Type 0} → StreamFault E → Type 0
IsUnexpected (fault.Shape e) = fault_of e ≡ unexpected
IsUnexpected e = ⊥

-- what a title in the payload's place says
abbrev pub IsPayload : Header → Payload → Type 0
IsPayload h (payload.Sized n) = h ≡ Bytes (Some n)
IsPayload h payload.Open = h ≡ Bytes None
IsPayload h payload.Absent = (h ≡ Simple 22) ⊎ (h ≡ Simple 23)
IsPayload h payload.Other = ((o : Option ℕ) → h ≢ Bytes o) × (h ≢ Simple 22) × (h ≢ Simple 23)
