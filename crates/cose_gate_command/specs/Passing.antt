-- How cose-pass ends.
use Rattle.std.specs.Prelude.{◌≡◌, ◌*◌, ℕ, List, flat_map, get_or, Option, None, Some, Bool, true, false, Result, Ok, Err, ◌&&◌, nat_eq, nat_lt, length, MatchBool}
use Rattle.ciborium_ll.specs.declared.write.Write.{Ghosts as Writes}
use Rattle.cose_gate_core.specs.Findings.{Bounds}
use Rattle.cose_gate_program.specs.Beginning.{aad_of}
use Rattle.cose_gate_program.specs.Program.{Devices}
use Rattle.cose_gate_program.specs.Telling.{RanTold, writes}
use Rattle.cose_gate_records.specs.Digests.{AreDigests, is_digest_among}
use Rattle.cose_gate_records.specs.Framing.{framed}
use Rattle.cose_gate_records.specs.Records.{is_among}
use Rattle.cose_gate_command.specs.Accepted.{HasLines, HasNoLines}
use Rattle.cose_gate_command.specs.Arguments.{PassArguments}
use Rattle.cose_gate_command.specs.Ends.{bounds_by}
use Rattle.cose_gate_command.specs.declared.not_run.NotRun.{NotRun}
use Rattle.cose_gate_command.specs.declared.not_run.NotRun.TheVariants as unrun

-- a file is binary if its eighth byte is 0
abbrev pub is_binary : List ℕ → Bool
is_binary file = nat_lt 7 (length file) && nat_eq (get_or file 7 0) 0

-- the records of a file: those of a binary one are its bytes
abbrev pub IsAccepted : List ℕ → List ℕ → Type 0
IsAccepted file records = MatchBool (is_binary file) (records ≡ file) (HasLines file records)

-- why a file has no records
abbrev pub AcceptsNot : List ℕ → NotRun → Type 0
AcceptsNot file why = (is_binary file ≡ false) × HasNoLines file why

-- why it isn't run with these arguments and this file, if that can be read
abbrev pub PassesNot : Option PassArguments → Option (List ℕ) → NotRun → Type 0
PassesNot None file why = why ≡ unrun.Usage
PassesNot (Some a) None why = why ≡ unrun.NoFile
PassesNot (Some a) (Some file) unrun.NotHex = aad_of a.aad ≡ None
PassesNot (Some a) (Some file) unrun.Memory = Unit {0}
PassesNot (Some a) (Some file) why = (a.digests ≡ false) × AcceptsNot file why

-- if the bytes are records, one after another, the gate ran with the judge that says yes to the
-- questions whose records they are; else nothing was read, written or told
abbrev pub RanPassing : {E G : Type 0} (e : Writes E G) → Bounds → List ℕ → List ℕ → Devices → Devices
    → E → E → Result ℕ NotRun → Type 0
RanPassing e limits records aad old new err err' (Ok status) = (keys : List (List ℕ))
    × (records ≡ flat_map framed keys)
    × RanTold limits (is_among keys) aad old new status (λ _. Unit {0}) (writes e err err')
RanPassing e limits records aad old new err err' (Err unrun.NoRecords) =
    ((keys : List (List ℕ)) → records ≡ flat_map framed keys → ⊥) × (new ≡ old) × (err' ≡ err)
RanPassing e limits records aad old new err err' (Err unrun.Memory) = (new ≡ old) × (err' ≡ err)
RanPassing e limits records aad old new err err' (Err why) = ⊥

-- the same with digests: if the bytes are digests of 32 bytes, one after another, yes is said to the
-- questions whose digests they are
abbrev pub PassedByDigests : {E G : Type 0} (e : Writes E G) → Bounds → List ℕ → List ℕ → Devices
    → Devices → E → E → Result ℕ NotRun → Type 0
PassedByDigests e limits bytes aad old new err err' (Ok status) = (digests : List (List ℕ))
    × AreDigests bytes digests
    × RanTold limits (is_digest_among digests) aad old new status (λ _. Unit {0})
    (writes e err err')
PassedByDigests e limits bytes aad old new err err' (Err unrun.NoDigests) =
    ((n : ℕ) → length bytes ≡ n * 32 → ⊥) × (new ≡ old) × (err' ≡ err)
PassedByDigests e limits bytes aad old new err err' (Err unrun.Memory) = (new ≡ old) × (err' ≡ err)
PassedByDigests e limits bytes aad old new err err' (Err why) = ⊥

-- how cose-pass ends with these arguments and what ACCEPTED holds, if it can be read: the gate ran
-- by the records of the file, or with --digests by its digests; or it isn't run, and nothing was
-- read, written or told
pub data PassEnds {E G : Type 0} (e : Writes E G) (a : Option PassArguments) (file : Option (List ℕ))
    (old new : Devices) (err err' : E) (result : Result ℕ NotRun) : Type 0 where
  not_run : (why : NotRun) → PassesNot a file why → result ≡ Err why → new ≡ old → err' ≡ err
      → PassEnds e a file old new err err' result
  after_run : (b : PassArguments) → a ≡ Some b → b.digests ≡ false → (d : List ℕ)
      → aad_of b.aad ≡ Some d → (bytes records : List ℕ) → file ≡ Some bytes
      → IsAccepted bytes records
      → RanPassing e (bounds_by b.strict) records d old new err err' result
      → PassEnds e a file old new err err' result
  by_digests : (b : PassArguments) → a ≡ Some b → b.digests ≡ true → (d : List ℕ)
      → aad_of b.aad ≡ Some d → (bytes : List ℕ) → file ≡ Some bytes
      → PassedByDigests e (bounds_by b.strict) bytes d old new err err' result
      → PassEnds e a file old new err err' result
