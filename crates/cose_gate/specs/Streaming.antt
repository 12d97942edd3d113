-- What the streaming check returns, over the bytes that were to come.
use Rattle.std.specs.Prelude.{◌≡◌, ◌≢◌, ℕ, ◌+◌, ◌⊎◌, List, ◌++◌, length, Option, None, Some, Bool, IsTrue, Result, Ok, Err, OnOk, OnErr, is_none}
use Rattle.std.specs.Io.KnownBytes.{Appends}
use Rattle.ciborium_ll.specs.Device.{AppendsFront, write_failures}
use Rattle.ciborium_ll.specs.declared.write.Write.{Ghosts as Writes}
use Rattle.ciborium_ll.specs.declared.hdr.Header.{Header}
use Rattle.ciborium_ll.specs.declared.hdr.Header.TheVariants.{Simple, Tag, Bytes}
use Rattle.ciborium_ll.specs.Seen.{Seen}
use Rattle.ciborium_ll.specs.Title.{Begins}
use Rattle.ciborium_value.specs.Tree.{Tree}
use Rattle.ciborium.specs.Front.{Reads, Front}
use Rattle.ciborium.specs.Damaged.{Damaged}
use Rattle.ciborium.specs.Reading.{IfKnown}
use Rattle.ciborium.specs.declared.de.Error.TheVariants as de
use Rattle.cose_gate_core.specs.Questions.{Question, MessageFields, questions, payload_of}
use Rattle.cose_gate_core.specs.Asked.{first_no, folded_over}
use Rattle.cose_gate_core.specs.Findings.{Bounds, IsJudged}
use Rattle.cose_gate.specs.Opening.{BeginsMessage, MessageOpening, BeginsPayload, ShowsFault, IsShapeFault}
use Rattle.cose_gate.specs.Stated.{IsSingleTag, IsSingle, Stated, InPieces, before_payload}
use Rattle.cose_gate.specs.StreamFaults.{Why, damaged, untagged, tagged, shape, without_payload, without_length, refused, IsLongFor}
use Rattle.cose_gate.specs.declared.checking.Place.{Place}
use Rattle.cose_gate.specs.declared.fault.StreamFault.{StreamFault}
use Rattle.cose_gate.specs.declared.fault.StreamFault.TheVariants as fault

-- the bytes are one message of a stated length within these limits that was asked about: the
-- answer, what the judge was told, and the lengths of the pieces that it was fed
pub record CheckedBy {T : Type 0} (limits : Bounds) (decided : T → Question → T)
    (allows : Question → Bool) (aad : List ℕ) (told told' : T) (room : ℕ) (lengths : List ℕ)
    (yes : Bool) (b : List ℕ) : Type 0 where
  pub item : Tree
  pub message : MessageFields
  pub size : ℕ
  pub reads : Reads b limits.nesting item
  pub is : IsJudged limits item message
  pub single : IsSingle message
  pub stated : Stated b size
  pub answer : yes ≡ is_none (first_no allows (questions message aad))
  pub tells : told' ≡ folded_over decided told (questions message aad)
  pub pieces : InPieces size room lengths

-- a text was written; or a beginning of it, and then the writer failed
pub record WritesAll {T W F : Type 0} (w : Writes W F) (old new : W) (answer : Result T F)
    (text : List ℕ) : Type 0 where
  pub ok : OnOk answer (Appends (w.written old) (w.written new) text)
  pub err : OnErr answer (AppendsFront (w.written old) (w.written new) text)
  pub failed : w.failed new ≡ write_failures answer (w.failed old)

-- such a message, of whose payload something is true
pub record CopiedBy {T : Type 0} (limits : Bounds) (decided : T → Question → T)
    (allows : Question → Bool) (aad : List ℕ) (told told' : T) (room : ℕ) (lengths : List ℕ)
    (IsCopied : List ℕ → Type 0) (yes : Bool) (b : List ℕ) : Type 0 where
  pub checked : CheckedBy limits decided allows aad told told' room lengths yes b
  pub payload : List ℕ
  pub is_payload : payload_of checked.message ≡ Some payload
  pub is_copied : IsCopied payload

-- if the bytes to come are known, and begin with a message of a stated length, its payload is in
-- this place
abbrev pub IsPlaced : Seen → Place → Type 0
IsPlaced old place =
    IfKnown old.left (λ b. (front rest : List ℕ) (size : ℕ) (s : Stated front size)
    → b ≡ front ++ rest
    → (place.at ≡ old.offset + length (before_payload s)) × (place.length ≡ size))

-- what a writer got of the payload of a message that was to come: nothing, and it is as it was; or
-- a text that the payload begins with, if the bytes are known, up to its end or to one failure of
-- the writer
pub data CopiedPart {W F : Type 0} (limits : Bounds) (w : Writes W F) (old new : W)
    (left : Option (List ℕ)) : Type 0 where
  nothing_copied : new ≡ old → CopiedPart limits w old new left
  part_copied : (answer : Result (Unit {0}) F) (text : List ℕ) → WritesAll w old new answer text
      → IfKnown left (λ b. BeginsPayload limits b text) → CopiedPart limits w old new left

-- why the bytes are no message that is checked within these limits. A fault of shape is shown by
-- the bytes up to the first part that is wrong, whether or not an item is readable, and if one is,
-- it has this fault.
abbrev pub UnstreamedBy : Bounds → ℕ → List ℕ → Why → Type 0
UnstreamedBy limits stop b (damaged f) = Damaged stop b limits.nesting f
UnstreamedBy limits stop b untagged =
    (h : Header) × (rest : List ℕ) × Begins b h rest × ((n : ℕ) → h ≢ Tag n)
UnstreamedBy limits stop b (tagged n) =
    (rest : List ℕ) × Begins b (Tag n) rest × (IsSingleTag n → ⊥)
UnstreamedBy limits stop b (shape e) =
    ShowsFault limits b e
    × ((t : Tree) (rest : List ℕ) → Front b limits.nesting t rest → IsShapeFault limits b t e)
UnstreamedBy limits stop b without_payload =
    MessageOpening limits b (Simple 22) ⊎ MessageOpening limits b (Simple 23)
UnstreamedBy limits stop b without_length = MessageOpening limits b (Bytes None)
UnstreamedBy limits stop b refused = BeginsMessage b

-- Ok, or a fault that says nothing of the bytes: being out of memory, a failure of the reader,
-- offsets that grow too long
abbrev pub Answered : {E : Type 0} → (E → Bool) → Type 0 → Result Bool (StreamFault E) → Type 0
Answered ends long (Ok answer) = Unit {0}
Answered ends long (Err (fault.Decode (de.Io e))) = IsTrue (ends e) → ⊥
Answered ends long (Err (fault.Decode de.TooLong)) = long
Answered ends long (Err fault.Memory) = Unit {0}
Answered ends long e = ⊥

-- if a judged message of a stated length begins, nothing but Ok is due
abbrev pub AnswersStatedBy : {E : Type 0} → Bounds → (E → Bool) → ℕ → Seen
    → Result Bool (StreamFault E) → Type 0
AnswersStatedBy limits ends room old result =
    IfKnown old.left (λ b. (item : Tree) (front rest : List ℕ) (message : MessageFields) (size : ℕ)
    → b ≡ front ++ rest → Reads front limits.nesting item → IsJudged limits item message
    → IsSingle message → Stated front size → Answered ends (IsLongFor room old.offset b) result)
