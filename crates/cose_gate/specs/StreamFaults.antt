-- The faults of the streaming check: what each tells of the bytes, and how often the reader failed.
use Rattle.std.specs.Prelude.{◌≡◌, ◌≢◌, ℕ, ◌+◌, ◌^◌, ◌≤◌, max, List, length, None, Bool, IsTrue, Result, Err, if◌then◌else◌}
use Rattle.ciborium_ll.specs.Seen.{Seen}
use Rattle.ciborium.specs.Damage.{Fault, end, deep, syntax, semantic}
use Rattle.ciborium.specs.Reading.{IfKnown, IsNoMemory}
use Rattle.ciborium.specs.declared.de.Error.{Error}
use Rattle.ciborium.specs.declared.de.Error.TheVariants as de
use Rattle.coset_labels.specs.Faults.{CoseFault, fault_of, no_memory}
use Rattle.coset_labels.specs.declared.error.CoseError.{CoseError}
use Rattle.coset_labels.specs.declared.error.CoseError.TheVariants as cose
use Rattle.cose_gate.specs.declared.fault.StreamFault.{StreamFault}
use Rattle.cose_gate.specs.declared.fault.StreamFault.TheVariants as fault

-- why no message was checked
pub data Why : Type 0 where
  damaged : Fault → Why
  untagged : Why
  tagged : ℕ → Why
  shape : CoseFault → Why
  without_payload without_length refused : Why

-- a fault of decoding and one of shape never hold being out of memory
abbrev pub HoldsNoMemory : {E : Type 0} → StreamFault E → Type 0
HoldsNoMemory (fault.Decode e) = IsNoMemory e
HoldsNoMemory (fault.Shape e) = fault_of e ≢ no_memory
HoldsNoMemory e = Unit {0}

-- what a fault tells: why, or that offsets grow too long; a failure of the reader tells nothing of
-- the bytes
abbrev pub TellsFault : {E : Type 0} → (E → Bool) → (Why → Type 0) → Type 0 → StreamFault E → Type 0
TellsFault ends D long (fault.Decode (de.Io e)) = IsTrue (ends e) → D (damaged end)
TellsFault ends D long (fault.Decode (de.Syntax p)) = D (damaged (syntax p))
TellsFault ends D long (fault.Decode (de.Semantic o k)) = (o ≡ None) × D (damaged (semantic k))
TellsFault ends D long (fault.Decode de.RecursionLimitExceeded) = D (damaged deep)
TellsFault ends D long (fault.Decode de.Memory) = ⊥
TellsFault ends D long (fault.Decode de.TooLong) = long
TellsFault ends D long fault.NotTagged = D untagged
TellsFault ends D long (fault.OtherTag n) = D (tagged n)
TellsFault ends D long (fault.Shape e) = D (shape (fault_of e))
TellsFault ends D long fault.Detached = D without_payload
TellsFault ends D long fault.Unsized = D without_length
TellsFault ends D long fault.Memory = D refused

-- offsets pass what they can be, if so many bytes are asked for at a time
abbrev pub IsLongFor : ℕ → ℕ → List ℕ → Type 0
IsLongFor room at b = 2 ^ 64 ≤ at + length b + max 4096 room

-- `TooLong` comes only close to the end of what places can be: at most 4,096 bytes before 2^64, or
-- at most `room` if that is more, the most that is asked for at a time
abbrev pub IsFarFor : {E : Type 0} → ℕ → ℕ → StreamFault E → Type 0
IsFarFor room at f = f ≡ fault.Decode de.TooLong → 2 ^ 64 ≤ at + max 4096 room

-- what a fault says of the bytes that were to come, if they are known; D is over the place after
-- them, and over them
abbrev pub NamesWhy : {E : Type 0} → (E → Bool) → (ℕ → List ℕ → Why → Type 0) → ℕ → Seen
    → StreamFault E → Type 0
NamesWhy ends D room old f =
    HoldsNoMemory f
    × IfKnown old.left (λ b. TellsFault ends (D (old.offset + length b) b)
    (IsLongFor room old.offset b) f)

-- the fault for one of the reader of items
abbrev pub fault_by : {E : Type 0} → Error E → StreamFault E
fault_by de.Memory = fault.Memory
fault_by e = fault.Decode e

-- the fault for one of shape
abbrev pub shape_by : {E : Type 0} → CoseError → StreamFault E
shape_by cose.Memory = fault.Memory
shape_by e = fault.Shape e

-- how often the reader has failed after this result
abbrev pub failures : {T E : Type 0} → (E → Bool) → Result T (StreamFault E) → ℕ → ℕ
failures ends (Err (fault.Decode (de.Io e))) n = if ends e then n else n + 1
failures ends answer n = n

-- every call on a decoder: a failure is counted exactly when the result is one, the reader stays
-- the same, and no header waits then
pub record Steady {T E : Type 0} (ends : E → Bool) (answer : Result T (StreamFault E))
    (old new : Seen) : Type 0 where
  pub failed : new.failed ≡ failures ends answer old.failed
  pub handle : new.handle ≡ old.handle
  pub waiting : new.waiting ≡ None
