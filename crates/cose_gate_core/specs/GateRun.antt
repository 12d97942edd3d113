-- A run of the gate over an input, as a value: what was done, how it ended, and what is left. What is
-- seen of a run is a function of it.
use Rattle.std.specs.Prelude.{◌≡◌, ◌≢◌, ◌+◌, ℕ, List, [], ◌∷◌, ◌++◌, length, Option, Some, Bool, true, IsTrue, Result, Ok, Err}
use Rattle.std.specs.Io.KnownBytes.{Appends}
use Rattle.ciborium.specs.Front.{HoldsOne}
use Rattle.ciborium.specs.Items.{IsUnreadableWithin}
use Rattle.ciborium.specs.Reading.{IfKnown, IfEnd, IsNoMemory}
use Rattle.ciborium.specs.declared.de.Error.{Error}
use Rattle.ciborium.specs.declared.de.Error.TheVariants as de
use Rattle.cose_gate_core.specs.Questions.{Question}
use Rattle.cose_gate_core.specs.Asked.{IsFront, folded_over}
use Rattle.cose_gate_core.specs.Findings.{Bounds}
use Rattle.cose_gate_core.specs.Misshapen.{NamesShapes}
use Rattle.cose_gate_core.specs.Outcome.{Rules, GateState, IsFaultOf, IsNoReaderFault}
use Rattle.cose_gate_core.specs.Run.{Step, Course, asked_of, questions_of, passes, text_of, written_of, output_of, entries_of, passed_count, refused_count}
use Rattle.cose_gate_core.specs.declared.gating.Counts.{Counts}
use Rattle.cose_gate_core.specs.declared.gating.GateFault.{GateFault}
use Rattle.cose_gate_core.specs.declared.gating.GateFault.TheVariants.{Decode, Write, Memory}

-- how far the item at hand came: out of memory after some of its questions, but not all; the writer
-- failed after a beginning of its encoding; or out of memory when it was done but for its entry
pub data Half : Type 0 where
  asking : List Question → Half
  writing : List ℕ → Half
  noting : Half

-- how a run ended: all items were done; what passed could not be handed on after an item that was
-- done; no readable item begins at what is left, for this fault, or there is no memory for it, when
-- so many bytes of it were taken; or at an item
pub data Ending (E : Type 0) : Type 0 where
  finished : Ending E
  unflushed : Ending E
  unreadable : Error E → List ℕ → Ending E
  no_memory : List ℕ → Ending E
  within : Step → Half → Ending E

-- the items that were done whole: asked, written and noted; how the run ended; and what is left
pub record GateRun (E : Type 0) : Type 0 where
  pub done : List Step
  pub ending : Ending E
  pub rest : List ℕ

-- the item at hand, and what was taken of one that isn't read
abbrev pub at_hand : {E : Type 0} → Ending E → List Step
at_hand (within next half) = next ∷ []
at_hand ending = []

abbrev pub taken_at : {E : Type 0} → Ending E → List ℕ
taken_at (unreadable e taken) = taken
taken_at (no_memory taken) = taken
taken_at ending = []

-- what was asked and written of the item at hand
abbrev pub asked_at : {E : Type 0} → (Question → Bool) → List ℕ → Ending E → List Question
asked_at allows aad (within next (asking asked)) = asked
asked_at allows aad (within next half) = asked_of allows aad next.finding
asked_at allows aad ending = []

abbrev pub written_at : {E : Type 0} → (Question → Bool) → List ℕ → Ending E → List ℕ
written_at allows aad (within next (writing part)) = part
written_at allows aad (within next noting) = written_of allows aad next.finding
written_at allows aad ending = []

-- all that was asked and written
abbrev pub asked_in : {E : Type 0} → (Question → Bool) → List ℕ → GateRun E → List Question
asked_in allows aad run = questions_of allows aad run.done ++ asked_at allows aad run.ending

abbrev pub written_in : {E : Type 0} → (Question → Bool) → List ℕ → GateRun E → List ℕ
written_in allows aad run = output_of allows aad run.done ++ written_at allows aad run.ending

-- what the gate returns: how many items passed and were refused, or what stopped it
abbrev pub result_at : {E : Type 0} → Counts → Ending E → Result Counts (GateFault E)
result_at counts finished = Ok counts
result_at counts unflushed = Err Write
result_at counts (unreadable e taken) = Err (Decode e)
result_at counts (within next (writing part)) = Err Write
result_at counts ending = Err Memory

abbrev pub result_of : {E : Type 0} → (Question → Bool) → List ℕ → GateRun E
    → Result Counts (GateFault E)
result_of allows aad run = result_at (record {
  passed = passed_count allows aad run.done;
  refused = refused_count allows aad run.done;
}) run.ending

-- P holds if it is a fault of the bytes: not one of the reader, nor that offsets grow too long
abbrev pub IfOfBytes : {E : Type 0} → (E → Bool) → Type 0 → Error E → Type 0
IfOfBytes ends P (de.Io e) = IsTrue (ends e) → P
IfOfBytes ends P de.Memory = Unit {0}
IfOfBytes ends P de.TooLong = Unit {0}
IfOfBytes ends P e = P

-- what is so of each ending, if the reader told these bytes to come, and these steps were done and
-- the rest is left; only a gate that is live hands on, after each item. Of an item that is cut some
-- bytes were taken, and out of memory none after the item that was due.
abbrev pub EndsAt : {E : Type 0} → (E → Bool) → Bool → Bounds → (Question → Bool) → List ℕ
    → Option (List ℕ) → List Step → List ℕ → Ending E → Type 0
EndsAt ends live limits allows aad told done rest finished = rest ≡ []
EndsAt ends live limits allows aad told done rest unflushed = (live ≡ true) × (done ≢ [])
EndsAt ends live limits allows aad told done rest (unreadable e taken) = IsNoMemory e
    × IfKnown told (λ b. IfOfBytes ends (IsUnreadableWithin limits.nesting (taken ++ rest)) e)
    × IfKnown told (λ b. IfEnd ends (taken ≢ []) e)
EndsAt ends live limits allows aad told done rest (no_memory taken) =
    IfKnown told (λ b. taken ++ rest ≢ []) × HoldsOne taken
EndsAt ends live limits allows aad told done rest (within next (asking asked)) =
    IsFront asked (asked_of allows aad next.finding) × (asked ≢ asked_of allows aad next.finding)
EndsAt ends live limits allows aad told done rest (within next (writing part)) =
    (passes allows aad next.finding ≡ true) × IsFront part (text_of next.finding)
EndsAt ends live limits allows aad told done rest (within next noting) = Unit {0}

-- which fault it is that no readable item begins, in a run that began at the offset `at`: apart
-- from the above, since nothing else rests on it
abbrev pub FaultAt : {E : Type 0} → (E → Bool) → Bounds → ℕ → Option (List ℕ) → List ℕ → Ending E
    → Type 0
FaultAt ends limits at told rest (unreadable e taken) =
    IfKnown told (λ b. IsFaultOf ends limits.nesting (at + length b) (taken ++ rest) e)
FaultAt ends limits at told rest ending = Unit {0}

-- the rest is what the reader tells to come, if it told what was to come; but after a fault of the
-- reader and at an end that is open
abbrev pub Leaves : {E : Type 0} → Ending E → Option (List ℕ) → Option (List ℕ) → List ℕ → Type 0
Leaves (unreadable e taken) old new rest = IsNoReaderFault e → IfKnown old (λ b. new ≡ Some rest)
Leaves (within next half) old new rest = IfKnown new (λ b. b ≡ rest)
Leaves ending old new rest = IfKnown old (λ b. new ≡ Some rest)

-- some bytes were there, those to come if these are known; this is a run over them; and what was
-- asked, noted, written and returned, and where the reader stands, is this run's
pub record Ran {T S E : Type 0} (ends : E → Bool) (live : Bool) (rules : Rules T S)
    (old new : GateState T S) (result : Result Counts (GateFault E)) : Type 0 where
  pub input : List ℕ
  pub is : IfKnown old.left (λ b. b ≡ input)
  pub run : GateRun E
  pub course : Course rules.limits rules.allows rules.aad old.offset input
      (run.done ++ at_hand run.ending) (taken_at run.ending ++ run.rest)
  pub ends_at : EndsAt ends live rules.limits rules.allows rules.aad old.left run.done run.rest
      run.ending
  pub asked : new.told ≡ folded_over rules.decided old.told (asked_in rules.allows rules.aad run)
  pub noted : new.state ≡ folded_over rules.folded old.state (entries_of run.done)
  pub written : Appends old.written new.written (written_in rules.allows rules.aad run)
  pub returned : result ≡ result_of rules.allows rules.aad run
  pub stands : new.offset + length run.rest ≡ old.offset + length input
  pub left : Leaves run.ending old.left new.left run.rest
  pub fault : FaultAt ends rules.limits old.offset old.left run.rest run.ending
  pub shapes : NamesShapes rules.limits (run.done ++ at_hand run.ending)
