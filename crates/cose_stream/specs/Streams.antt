-- How the check of one message ends.
use Rattle.std.specs.Prelude.{◌≡◌, ◌≢◌, ℕ, ◌+◌, ◌^◌, ◌≤◌, List, [], ◌++◌, length, Option, Some, Bool, true, false, Result, Ok, Err, is_none, if◌then◌else◌}
use Rattle.std.specs.Io.KnownBytes.{Appends, Keeps}
use Rattle.ciborium_ll.specs.declared.read.Read.{Ghosts as Reading}
use Rattle.ciborium_ll.specs.declared.write.Write.{Ghosts as Writing}
use Rattle.cose_gate.specs.Asked.{first_no}
use Rattle.cose_gate.specs.Beginning.{BeginsNot, aad_of}
use Rattle.cose_gate.specs.Faults.{CoseFault}
use Rattle.cose_gate.specs.Findings.{usual, IsJudged}
use Rattle.cose_gate.specs.Front.{Reads}
use Rattle.cose_gate.specs.HmacJudges.{says_yes}
use Rattle.cose_gate.specs.KeyFields.{KeyFields}
use Rattle.cose_gate.specs.Keys.{HasKeySet}
use Rattle.cose_gate.specs.Questions.{Question, MessageFields, questions, payload_of}
use Rattle.cose_gate.specs.ReadError.TheVariants as de
use Rattle.cose_gate.specs.Reading.{IfKnown}
use Rattle.cose_gate.specs.Stated.{IsSingle, Stated}
use Rattle.cose_gate.specs.StreamFaults.{Why, untagged, tagged, shape, without_payload, without_length, TellsFault, IsLongFor}
use Rattle.cose_gate.specs.Streaming.{CopiedPart, UnstreamedBy}
use Rattle.cose_gate.specs.Tree.{Tree}
use Rattle.cose_gate.specs.declared.fault.StreamFault.{StreamFault}
use Rattle.cose_gate.specs.declared.fault.StreamFault.TheVariants as fault
use Rattle.cose_gate.specs.GateFault.TheVariants as gating
use Rattle.cose_gate_program.specs.Faults.{is_end}
use Rattle.cose_gate_program.specs.declared.devices.InputFault.{InputFault}
use Rattle.cose_gate_program.specs.declared.devices.InputFault.TheVariants as input
use Rattle.ciborium.specs.declared.de.Error.{Error}
use Rattle.coset_labels.specs.Reading.{HasItem}
use Rattle.cose_stream.specs.declared.stop.StreamRefusal.{StreamRefusal}
use Rattle.cose_stream.specs.declared.stop.StreamRefusal.TheVariants as refusal
use Rattle.cose_stream.specs.declared.stop.StreamStop.{StreamStop}
use Rattle.cose_stream.specs.declared.stop.StreamStop.TheVariants as stop

-- the fault of a reader, without what it holds
abbrev pub input_fault : Bool → InputFault
input_fault ended = if ended then input.End else input.Failed

abbrev pub error_of : {E : Type 0} → (E → Bool) → Error E → Error InputFault
error_of ends (de.Io e) = de.Io (input_fault (ends e))
error_of ends (de.Syntax at) = de.Syntax at
error_of ends (de.Semantic at k) = de.Semantic at k
error_of ends de.RecursionLimitExceeded = de.RecursionLimitExceeded
error_of ends de.Memory = de.Memory
error_of ends de.TooLong = de.TooLong

-- why no message was checked, as the streaming check has it
abbrev pub stopped_by : {E : Type 0} → (E → Bool) → StreamFault E → StreamStop
stopped_by ends (fault.Decode e) = stop.Stopped (gating.Decode (error_of ends e))
stopped_by ends fault.Memory = stop.Stopped gating.Memory
stopped_by ends fault.NotTagged = stop.Refused refusal.NotTagged
stopped_by ends (fault.OtherTag n) = stop.Refused refusal.OtherTag
stopped_by ends (fault.Shape e) = stop.Refused refusal.Shape
stopped_by ends fault.Detached = stop.Refused refusal.Detached
stopped_by ends fault.Unsized = stop.Refused refusal.Unsized

-- the bytes are one message that states its payload's length in front, this is its payload, and
-- this the answer to its question
pub record IsAnsweredMessage (allows : Question → Bool) (aad : List ℕ) (answer : Bool)
    (payload b : List ℕ) : Type 0 where
  pub item : Tree
  pub message : MessageFields
  pub size : ℕ
  pub reads : Reads b usual.nesting item
  pub is : IsJudged usual item message
  pub single : IsSingle message
  pub stated : Stated b size
  pub is_payload : payload_of message ≡ Some payload
  pub is_answer : answer ≡ is_none (first_no allows (questions message aad))

-- the bytes begin with such a message, and Q holds of what is after it
abbrev pub BeginsWithMessage : (Question → Bool) → List ℕ → Bool → Option (List ℕ)
    → (List ℕ → Type 0)
    → Type 0
BeginsWithMessage allows aad answer left Q =
    (payload front : List ℕ) × IsAnsweredMessage allows aad answer payload front
    × IfKnown left (λ b. (rest : List ℕ) × (b ≡ front ++ rest) × Q rest)

-- why the bytes are refused that are no such message
abbrev pub IsWhy : StreamRefusal → Why → Type 0
IsWhy refusal.NotTagged why = why ≡ untagged
IsWhy refusal.OtherTag why = (n : ℕ) × (why ≡ tagged n)
IsWhy refusal.Shape why = (e : CoseFault) × (why ≡ shape e)
IsWhy refusal.Detached why = why ≡ without_payload
IsWhy refusal.Unsized why = why ≡ without_length
IsWhy refusal.Judged why = ⊥
IsWhy refusal.ExtraneousData why = ⊥

abbrev pub IsRefusedFor : (Question → Bool) → List ℕ → Option (List ℕ) → StreamRefusal → Type 0
IsRefusedFor allows aad left refusal.Judged =
    BeginsWithMessage allows aad false left (λ rest. Unit {0})
IsRefusedFor allows aad left refusal.ExtraneousData =
    BeginsWithMessage allows aad true left (λ rest. rest ≢ [])
IsRefusedFor allows aad left why =
    IfKnown left (λ b. (w : Why) × IsWhy why w × UnstreamedBy usual (length b) b w)

-- P holds of a refusal after the whole payload was written: only then it is known what the judge
-- says
abbrev pub IfWhole : StreamRefusal → Type 0 → Type 0
IfWhole refusal.Judged P = P
IfWhole refusal.ExtraneousData P = P
IfWhole why P = Unit {0}

-- how the check ends by this judge and external data: the whole input is such a message, the answer
-- is yes, and its payload was written and is not held back; or what is said of the input is true,
-- and nothing was written but a beginning of the payload; the output hasn't failed if the judge was
-- heard. If it failed, the last call may have been a flush, which changes nothing that was written.
abbrev pub StreamEnds : {W F : Type 0} → (Question → Bool) → List ℕ → Option (List ℕ)
    → Writing W F → W → W → Result (Unit {0}) StreamStop → Type 0
StreamEnds allows aad left w out out' (Ok u) =
    (payload front : List ℕ) × IsAnsweredMessage allows aad true payload front
    × IfKnown left (λ b. b ≡ front)
    × (w.failed out' ≡ w.failed out) × Appends (w.written out) (w.written out') payload
    × (w.held out' ≡ [])
StreamEnds allows aad left w out out' (Err (stop.NotBegun why)) = ⊥
StreamEnds allows aad left w out out' (Err (stop.NoFile why)) = ⊥
StreamEnds allows aad left w out out' (Err (stop.Refused why)) =
    IsRefusedFor allows aad left why × CopiedPart usual w out out' left
    × IfWhole why (w.failed out' ≡ w.failed out)
StreamEnds allows aad left w out out' (Err (stop.Stopped (gating.Decode e))) =
    IfKnown left (λ b. TellsFault is_end (UnstreamedBy usual (length b) b) (IsLongFor 4096 0 b)
    (fault.Decode e))
    × CopiedPart usual w out out' left
StreamEnds {W = W} allows aad left w out out' (Err (stop.Stopped gating.Write)) =
    (w.failed out' ≡ w.failed out + 1)
    × ((before : W) × CopiedPart usual w out before left
    × Keeps (w.written before) (w.written out'))
StreamEnds allows aad left w out out' (Err (stop.Stopped gating.Memory)) =
    CopiedPart usual w out out' left

-- how often the input has failed after this end, if it had so often before
abbrev pub failures_after : Result (Unit {0}) StreamStop → ℕ → ℕ
failures_after (Err (stop.Stopped (gating.Decode (de.Io e)))) n = if is_end e then n else n + 1
failures_after other n = n

-- the same by what KEYS holds, if it can be read, and AADHEX; or the check doesn't begin, and
-- nothing was read or written
pub data Streams {R E W F : Type 0} (r : Reading R E) (w : Writing W F)
    (keys aad : Option (List ℕ)) (old new : R) (out out' : W)
    (result : Result (Unit {0}) StreamStop) : Type 0 where
  not_begun : (why : _) → BeginsNot keys (aad_of aad) why → result ≡ Err (stop.NotBegun why)
      → new ≡ old → out' ≡ out → Streams r w keys aad old new out out' result
  begun : (bytes d : List ℕ) (ks : List KeyFields) → keys ≡ Some bytes
      → HasItem HasKeySet bytes ks → aad_of aad ≡ Some d
      → StreamEnds (says_yes ks) d (r.left old) w out out' result
      → r.failed new ≡ failures_after result (r.failed old)
      → Streams r w keys aad old new out out' result

-- whether these are no bytes
abbrev pub IsEnd : Option (List ℕ) → Bool → Type 0
IsEnd left true = IfKnown left (λ b. b ≡ [])
IsEnd left false = IfKnown left (λ b. b ≢ [])

-- the input failed, or offsets grow too long
abbrev pub IsNoEnd : ℕ → StreamStop → Type 0
IsNoEnd at (stop.Stopped (gating.Decode (de.Io e))) = is_end e ≡ false
IsNoEnd at (stop.Stopped (gating.Decode de.TooLong)) = 2 ^ 64 ≤ at + 1
IsNoEnd at other = ⊥
