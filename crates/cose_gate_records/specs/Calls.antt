-- What a call over buffers returns.
use Rattle.std.specs.Prelude.{◌≡◌, ℕ, ◌<◌, ◌≤◌, ◌*◌, ◌⊎◌, List, [], ◌++◌, length, drop, flat_map, Option, None, Some, Bool, true}
use Rattle.coset_labels.specs.Limits.{AreLimits}
use Rattle.cose_gate_core.specs.Findings.{Bounds, within}
use Rattle.cose_gate_core.specs.Questions.{Question}
use Rattle.cose_gate_program.specs.Judge.{says_yes}
use Rattle.cose_gate_program.specs.Program.{Devices}
use Rattle.cose_gate_program.specs.Telling.{RanTold, EndsTold}
use Rattle.cose_gate_program.specs.declared.telling.Notice.{Notice}
use Rattle.cose_gate_records.specs.Digests.{AreDigests, is_digest_among}
use Rattle.cose_gate_records.specs.Framing.{framed}
use Rattle.cose_gate_records.specs.Records.{is_among, record_of}
use Rattle.cose_gate_records.specs.Lines.{AreLines, AreLinesOf, AreLinesThenMemory, no_digests, no_records, stopped}
use Rattle.cose_gate_records.specs.declared.answer.Answer.{Answer}

-- the input to come and the output, if they are known, when nothing has failed
abbrev pub devices : Option (List ℕ) → Option (List ℕ) → Devices
devices left written =
    record { left = left; written = written; read_failures = 0; write_failures = 0 }

-- the program's run wrote this output and these lines, and ended with this status
abbrev pub Runs : Bounds → List ℕ → List ℕ → List ℕ → List ℕ → ℕ → List ℕ → ℕ → Type 0
Runs limits keys aad input lines count written status = (left : Option (List ℕ))
    × EndsTold limits says_yes (Some keys) (Some aad) (devices (Some input) (Some []))
    (devices left (Some written)) status (AreLinesOf lines count)

-- out of memory, and nothing is written
abbrev pub NoMemory : List ℕ → ℕ → Type 0
NoMemory written status = (written ≡ []) × (status ≡ 4)

-- out of memory for what a run over this input wrote or was asked: the lines are those of the run,
-- but for the last
abbrev pub IsCutShort : Bounds → (Question → Bool) → List ℕ → List ℕ → List ℕ → ℕ → Type 0
IsCutShort limits allows aad input lines count =
    (old : Devices) × (new : Devices) × (status : ℕ) × (old.left ≡ Some input)
    × RanTold limits allows aad old new status (λ _. Unit {0}) (AreLinesThenMemory lines count)

-- the output is in front of what was there, if it is no longer; else there is no space, and nothing
-- was written
pub record Places (written : List ℕ) (status : ℕ) (old new : List ℕ) (answer : Answer) : Type 0 where
  pub length_is : answer.length ≡ length written
  pub fits : length written ≤ length old
      → (answer.status ≡ status) × (new ≡ written ++ drop (length written) old)
  pub no_room : length old < length written → (answer.status ≡ 5) × (new ≡ old)

-- what is in the two buffers that a call writes: that of the output, and that of the lines
pub record Buffers : Type 0 where
  pub out : List ℕ
  pub lines : List ℕ

abbrev pub buffers : List ℕ → List ℕ → Buffers
buffers out lines = record { out = out; lines = lines }

-- if the limits are some that a caller may choose, there is an output with its status, and it is
-- placed; else nothing was read, and neither buffer changed
abbrev pub Answers : ℕ → ℕ → (List ℕ → ℕ → Type 0) → Buffers → Buffers → Answer → Type 0
Answers nesting layers IsText old new answer =
    (AreLimits nesting layers × ((written : List ℕ) × (status : ℕ) × IsText written status
    × Places written status old.out new.out answer))
    ⊎ ((AreLimits nesting layers → ⊥) × (answer.status ≡ 2) × (answer.length ≡ 0)
    × (new.out ≡ old.out) × (answer.lines ≡ 0) × (new.lines ≡ old.lines))

-- the program's run over memory: it wrote its output, or memory ran out for that
abbrev pub CheckTold : Bounds → List ℕ → List ℕ → List ℕ → List ℕ → ℕ → List ℕ → ℕ → Type 0
CheckTold limits keys aad input lines count written status =
    Runs limits keys aad input lines count written status
    ⊎ (NoMemory written status × ((new : Devices) × (ended : ℕ)
    × EndsTold limits says_yes (Some keys) (Some aad) (devices (Some input) (Some [])) new ended
    (AreLinesThenMemory lines count)))

abbrev pub Checks : ℕ → ℕ → Bool → List ℕ → List ℕ → List ℕ → Buffers → Buffers → Answer → Type 0
Checks nesting layers strict keys aad input old new answer =
    Answers nesting layers
    (CheckTold (within nesting layers strict) keys aad input new.lines answer.lines) old new answer

-- the output is the records of the questions that were asked in a run with a judge who always says
-- yes, in order, and the lines are those of that run
abbrev pub TellsIn : Bounds → List ℕ → List ℕ → List ℕ → ℕ → List ℕ → ℕ → Type 0
TellsIn limits aad input lines count text status = (left : Option (List ℕ))
    × RanTold limits (λ _. true) aad (devices (Some input) None) (devices left None) status
    (λ asked. text ≡ flat_map record_of asked) (AreLinesOf lines count)

-- that, or memory ran out for the records
abbrev pub AskTold : Bounds → List ℕ → List ℕ → List ℕ → ℕ → List ℕ → ℕ → Type 0
AskTold limits aad input lines count written status =
    TellsIn limits aad input lines count written status
    ⊎ (NoMemory written status × IsCutShort limits (λ _. true) aad input lines count)

abbrev pub AsksWithin : ℕ → ℕ → Bool → List ℕ → List ℕ → Buffers → Buffers → Answer → Type 0
AsksWithin nesting layers strict aad input old new answer =
    Answers nesting layers
    (AskTold (within nesting layers strict) aad input new.lines answer.lines) old new answer

-- the run with a judge that allows these questions
abbrev pub RunsBy : Bounds → (Question → Bool) → List ℕ → List ℕ → List ℕ → ℕ → List ℕ → ℕ
    → Type 0
RunsBy limits allows aad input lines count written status = (left : Option (List ℕ))
    × RanTold limits allows aad (devices (Some input) (Some []))
    (devices left (Some written)) status (λ _. Unit {0}) (AreLinesOf lines count)

-- that run, or memory ran out for its output
abbrev pub RanBy : Bounds → (Question → Bool) → List ℕ → List ℕ → List ℕ → ℕ → List ℕ → ℕ
    → Type 0
RanBy limits allows aad input lines count written status =
    RunsBy limits allows aad input lines count written status
    ⊎ (NoMemory written status × IsCutShort limits allows aad input lines count)

-- if what was accepted is records, one after another, that run; else nothing was read, and the lines
-- are one that says so. If memory ran out for the records, nothing was read either.
abbrev pub PassTold : Bounds → List ℕ → List ℕ → List ℕ → List ℕ → ℕ → List ℕ → ℕ → Type 0
PassTold limits accepted aad input lines count written status =
    ((keys : List (List ℕ)) × (accepted ≡ flat_map framed keys)
    × RanBy limits (is_among keys) aad input lines count written status)
    ⊎ (((keys : List (List ℕ)) → accepted ≡ flat_map framed keys → ⊥) × (written ≡ []) × (status ≡ 3)
    × AreLines no_records lines count)
    ⊎ (NoMemory written status × AreLines stopped lines count)

abbrev pub PassesWithin : ℕ → ℕ → Bool → List ℕ → List ℕ → List ℕ → Buffers → Buffers → Answer → Type 0
PassesWithin nesting layers strict accepted aad input old new answer =
    Answers nesting layers
    (PassTold (within nesting layers strict) accepted aad input new.lines answer.lines) old new answer

-- the same with digests of 32 bytes, one after another, in place of records
abbrev pub PassedDigests : Bounds → List ℕ → List ℕ → List ℕ → List ℕ → ℕ → List ℕ → ℕ → Type 0
PassedDigests limits accepted aad input lines count written status =
    ((digests : List (List ℕ)) × AreDigests accepted digests
    × RanBy limits (is_digest_among digests) aad input lines count written status)
    ⊎ (((n : ℕ) → length accepted ≡ n * 32 → ⊥) × (written ≡ []) × (status ≡ 3)
    × AreLines no_digests lines count)
    ⊎ (NoMemory written status × AreLines stopped lines count)

abbrev pub PassesDigests : ℕ → ℕ → Bool → List ℕ → List ℕ → List ℕ → Buffers → Buffers → Answer
    → Type 0
PassesDigests nesting layers strict accepted aad input old new answer =
    Answers nesting layers
    (PassedDigests (within nesting layers strict) accepted aad input new.lines answer.lines)
    old new answer
