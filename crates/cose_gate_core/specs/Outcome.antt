-- What a gate goes by, what is seen of it, and what its faults are.
use Rattle.std.specs.Prelude.{◌≡◌, ◌≢◌, ℕ, ◌+◌, ◌^◌, ◌<◌, ◌≤◌, List, [], Option, None, Bool, IsTrue, Result, Err, if◌then◌else◌}
use Rattle.ciborium_ll.specs.Seen.{Seen}
use Rattle.ciborium.specs.Damage.{end, deep, syntax, semantic, Damage}
use Rattle.ciborium.specs.declared.de.Error.{Error}
use Rattle.ciborium.specs.declared.de.Error.TheVariants as de
use Rattle.cose_gate_core.specs.Questions.{Question}
use Rattle.cose_gate_core.specs.Findings.{Bounds}
use Rattle.cose_gate_core.specs.declared.report.Entry.{Entry}
use Rattle.cose_gate_core.specs.declared.gating.GateFault.{GateFault}
use Rattle.cose_gate_core.specs.declared.gating.GateFault.TheVariants.{Decode, Write}

-- the limits, how a judge's and a report's states go on, what the judge allows, and the external
-- data
pub record Rules (T S : Type 0) : Type 0 where
  pub limits : Bounds
  pub decided : T → Question → T
  pub folded : S → Entry → S
  pub allows : Question → Bool
  pub aad : List ℕ

-- what the judge was told, what the report was told, what was written, the offset, and the bytes to
-- come
pub record GateState (T S : Type 0) : Type 0 where
  pub told : T
  pub state : S
  pub written : Option (List ℕ)
  pub offset : ℕ
  pub left : Option (List ℕ)

-- the fault of the bytes `more`, if no item of at most n levels begins; `stop` is the place after
-- them. A failure of the reader says nothing of the bytes, and being out of memory is no such
-- fault.
abbrev pub IsFaultOf : {E : Type 0} → (E → Bool) → ℕ → ℕ → List ℕ → Error E → Type 0
IsFaultOf ends n stop more (de.Io e) = IsTrue (ends e) → Damage stop more n end × (more ≢ [])
IsFaultOf ends n stop more (de.Syntax p) = Damage stop more n (syntax p)
IsFaultOf ends n stop more (de.Semantic o k) = (o ≡ None) × Damage stop more n (semantic k)
IsFaultOf ends n stop more de.RecursionLimitExceeded = Damage stop more n deep
IsFaultOf ends n stop more de.Memory = ⊥
IsFaultOf ends n stop more de.TooLong = 2 ^ 64 ≤ stop + 4096

-- a fault that isn't the reader's: it neither failed nor came to an end
abbrev pub IsNoReaderFault : {E : Type 0} → Error E → Type 0
IsNoReaderFault {E} e = (x : E) → e ≢ de.Io x

-- how often the reader and the writer have failed in the call
abbrev pub reader_failures : {X E : Type 0} → (E → Bool) → Result X (GateFault E) → ℕ
reader_failures ends (Err (Decode (de.Io e))) = if ends e then 0 else 1
reader_failures ends result = 0

abbrev pub writer_failures : {X E : Type 0} → Result X (GateFault E) → ℕ
writer_failures (Err Write) = 1
writer_failures result = 0

-- a failure of the reader is counted exactly when the result is one, the reader stays the same, no
-- header waits, and the offset fits
pub record KeepsReader {X E : Type 0} (ends : E → Bool) (result : Result X (GateFault E))
    (old new : Seen) : Type 0 where
  pub failed : new.failed ≡ old.failed + reader_failures ends result
  pub handle : new.handle ≡ old.handle
  pub waiting : new.waiting ≡ None
  pub fits : new.offset < 2 ^ 64

-- P holds if offsets grow too long
abbrev pub IfTooLong : {E : Type 0} → Type 0 → GateFault E → Type 0
IfTooLong P (Decode de.TooLong) = P
IfTooLong P fault = Unit {0}
