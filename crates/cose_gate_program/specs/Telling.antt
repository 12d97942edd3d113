-- What is told of a run, and how the program ends.
use Rattle.std.specs.Prelude.{◌≡◌, ℕ, List, [], ◌∷◌, ◌++◌, map, Option, Some, Bool, true, Result, Ok, Err, if◌then◌else◌, nat_eq}
use Rattle.ciborium_ll.specs.declared.write.Write.{Ghosts as Writes}
use Rattle.coset_labels.specs.Reading.{HasItem}
use Rattle.cose_gate_core.specs.Asked.{folded_over}
use Rattle.cose_gate_core.specs.Findings.{Bounds}
use Rattle.cose_gate_core.specs.GateRun.{GateRun, asked_in, result_of}
use Rattle.cose_gate_core.specs.Questions.{Question}
use Rattle.cose_gate_core.specs.Run.{Step, entries_of}
use Rattle.cose_gate_core.specs.declared.gating.Counts.{Counts as Count}
use Rattle.cose_gate_core.specs.declared.gating.GateFault.{GateFault}
use Rattle.cose_gate_core.specs.declared.gating.GateFault.TheVariants as gating
use Rattle.coset_keys.specs.Fields.{KeyFields}
use Rattle.coset_keys.specs.Keys.{HasKeySet}
use Rattle.cose_gate_program.specs.Beginning.{status_of, BeginsNot}
use Rattle.cose_gate_program.specs.Lines.{lines_of}
use Rattle.cose_gate_program.specs.Program.{Devices, Shows}
use Rattle.cose_gate_program.specs.Writing.{Wrote}
use Rattle.cose_gate_program.specs.declared.beginning.NotBegun.{NotBegun as Unbegun}
use Rattle.cose_gate_program.specs.declared.devices.InputFault.{InputFault}
use Rattle.cose_gate_program.specs.declared.telling.Notice.{Notice}
use Rattle.cose_gate_program.specs.declared.telling.Notice.TheVariants.{Item, Counts, Stopped, NotBegun}
use Rattle.cose_gate_program.specs.declared.telling.Teller.{Ghosts as Tells}

-- the items of these steps
abbrev pub items_of : List Step → List Notice
items_of steps = map (λ e. Item e) (entries_of steps)

-- the gate ran: its result, and what judge and teller were told, are those of one run
pub record Gated (limits : Bounds) (allows : Question → Bool) (aad : List ℕ) (old new : Devices)
    (result : Result Count (GateFault InputFault)) (Asked : List Question → Type 0)
    (Told : List Notice → Type 0) : Type 0 where
  pub run : GateRun InputFault
  pub shows : Shows limits allows aad old new run true
  pub asked : Asked (asked_in allows aad run)
  pub told : Told (items_of run.done)
  pub result_is : result ≡ result_of allows aad run

-- what is told last if the gate ended so: how many passed and were refused, or what stopped it; if
-- the output wasn't flushed, that the writer failed
abbrev pub last_of : Result Count (GateFault InputFault) → Bool → Notice
last_of (Ok counts) flushed = if flushed then Counts counts else Stopped gating.Write
last_of (Err fault) flushed = Stopped (if flushed then fault else gating.Write)

-- the status after that: 0 if none is refused, 1 if some are, 4 if it stopped
abbrev pub status_at : Notice → ℕ
status_at (Item e) = 4
status_at (Counts counts) = if nat_eq counts.refused 0 then 0 else 1
status_at (Stopped fault) = 4
status_at (NotBegun why) = status_of why

-- what is told of a run: an item for each step that was done whole, and how it ended
abbrev pub told_in : (Question → Bool) → List ℕ → GateRun InputFault → Bool → List Notice
told_in allows aad run flushed =
    items_of run.done ++ last_of (result_of allows aad run) flushed ∷ []

-- the program ran: output, status, and what judge and teller were told are those of one run
pub record RanTold (limits : Bounds) (allows : Question → Bool) (aad : List ℕ) (old new : Devices)
    (status : ℕ) (Asked : List Question → Type 0) (Told : List Notice → Type 0) : Type 0 where
  pub run : GateRun InputFault
  pub flushed : Bool
  pub shows : Shows limits allows aad old new run flushed
  pub asked : Asked (asked_in allows aad run)
  pub told : Told (told_in allows aad run flushed)
  pub status_is : status ≡ status_at (last_of (result_of allows aad run) flushed)

-- how the program ends: after a run with the key set that KEYS holds and the external data, or the
-- run doesn't begin, and nothing was read and nothing written
pub data EndsTold (limits : Bounds) (allows : List KeyFields → Question → Bool)
    (keys aad : Option (List ℕ)) (old new : Devices) (status : ℕ) (Told : List Notice → Type 0)
    : Type 0 where
  not_begun : (why : Unbegun) → BeginsNot keys aad why → status ≡ status_of why → new ≡ old
      → Told (NotBegun why ∷ []) → EndsTold limits allows keys aad old new status Told
  after_run : (b d : List ℕ) → keys ≡ Some b → aad ≡ Some d
      → (ks : List KeyFields) → HasItem HasKeySet b ks
      → RanTold limits (allows ks) d old new status (λ _. Unit {0}) Told
      → EndsTold limits allows keys aad old new status Told

-- a teller was told these notices; `T.Teller` is what its bound brings
abbrev pub tells : {T : Type 0} (t : Tells T) → T → T → List Notice → Type 0
tells t old new notices = t.state new ≡ folded_over t.folded (t.state old) notices

-- the lines of these notices were written; `W.Write` is what its bound brings
abbrev pub writes : {W F : Type 0} (w : Writes W F) → W → W → List Notice → Type 0
writes w old new notices = Wrote w old new (lines_of notices)
