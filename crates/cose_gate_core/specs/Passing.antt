-- What one item's way through the gate shows.
use Rattle.std.specs.Prelude.{◌≡◌, ◌≢◌, ℕ, ◌⊎◌, List, Option, Bool, true, false, MatchBool, MatchResult, Result, Ok, Err}
use Rattle.std.specs.Io.KnownBytes.{Appends}
use Rattle.ciborium_ll.specs.Device.{AppendsFront}
use Rattle.ciborium_value.specs.Tree.{Tree}
use Rattle.coset_labels.specs.Faults.{fault_of}
use Rattle.ciborium.specs.declared.de.Error.{Error}
use Rattle.ciborium.specs.declared.de.Error.TheVariants as de
use Rattle.cose_gate_core.specs.Questions.{Question, MessageFields, message_text}
use Rattle.cose_gate_core.specs.Asked.{folded_over, IsFront, ToldPart}
use Rattle.cose_gate_core.specs.Findings.{not_tagged, encrypted, other_tag, detached, no_signature, not_shortest, Finding, judged, Bounds, IsBarred, Finds}
use Rattle.cose_gate_core.specs.Misshapen.{IsMisshapen, NamesShape}
use Rattle.cose_gate_core.specs.Run.{IsVerdict, asked_of, passes, written_of}
use Rattle.cose_gate_core.specs.declared.report.Refusal.{Refusal}
use Rattle.cose_gate_core.specs.declared.report.Refusal.TheVariants as refusal
use Rattle.cose_gate_core.specs.declared.report.Verdict.{Verdict}
use Rattle.cose_gate_core.specs.declared.passing.ItemFault.{ItemFault}
use Rattle.cose_gate_core.specs.declared.passing.ItemFault.TheVariants as fault
use Rattle.cose_gate_core.specs.declared.gating.GateFault.{GateFault}
use Rattle.cose_gate_core.specs.declared.gating.GateFault.TheVariants as gating

-- a refusal that is made before the judge is asked
abbrev pub IsRefused : Bounds → List ℕ → Tree → Refusal → Type 0
IsRefused limits b t refusal.NotTagged = IsBarred limits b t not_tagged
IsRefused limits b t (refusal.OtherTag n) = IsBarred limits b t (other_tag n)
IsRefused limits b t refusal.Encrypted = IsBarred limits b t encrypted
IsRefused limits b t (refusal.Shape e) = IsMisshapen limits t (fault_of e)
IsRefused limits b t refusal.Detached = IsBarred limits b t detached
IsRefused limits b t refusal.NoSignature = IsBarred limits b t no_signature
IsRefused limits b t (refusal.Judged n) = ⊥
IsRefused limits b t refusal.NotShortest = IsBarred limits b t not_shortest

-- what is told of a message: whether it may pass a gate that may be strict
abbrev pub IsTold : Bounds → List ℕ → MessageFields → Bool → Type 0
IsTold limits b m through = MatchBool through (limits.strict ≡ true → b ≡ message_text m)
    ((limits.strict ≡ true) × (b ≢ message_text m))

-- what an item goes by: the limits, how a judge's state goes on, what the judge allows, and the
-- external data
pub record ItemRules (T : Type 0) : Type 0 where
  pub limits : Bounds
  pub decided : T → Question → T
  pub allows : Question → Bool
  pub aad : List ℕ

-- what the judge was told, and what was written
pub record ItemSight (T : Type 0) : Type 0 where
  pub told : T
  pub written : Option (List ℕ)

-- the item went through: what was found, told and written
pub record WentThrough {T : Type 0} (rules : ItemRules T) (bytes : List ℕ) (t : Tree)
    (old new : ItemSight T) (v : Verdict) : Type 0 where
  pub finding : Finding
  pub finds : Finds rules.limits bytes t finding
  pub verdict : IsVerdict rules.allows rules.aad finding v
  pub shape : NamesShape rules.limits t v
  pub tells : new.told ≡ folded_over rules.decided old.told (asked_of rules.allows rules.aad finding)
  pub writes : Appends old.written new.written (written_of rules.allows rules.aad finding)

-- the item is a message, and the judge was told a beginning of the questions about it, but not all
pub record Half {T : Type 0} (rules : ItemRules T) (bytes : List ℕ) (t : Tree)
    (old new : ItemSight T) : Type 0 where
  pub message : MessageFields
  pub is : Finds rules.limits bytes t (judged message)
  pub part : ToldPart rules.decided old.told new.told
      (asked_of rules.allows rules.aad (judged message))

-- the item is a message that passes, the judge was told all questions about it, and a beginning of
-- its encoding was written
pub record HalfWritten {T : Type 0} (rules : ItemRules T) (bytes : List ℕ) (t : Tree)
    (old new : ItemSight T) : Type 0 where
  pub message : MessageFields
  pub is : Finds rules.limits bytes t (judged message)
  pub passed : passes rules.allows rules.aad (judged message) ≡ true
  pub tells : new.told ≡ folded_over rules.decided old.told
      (asked_of rules.allows rules.aad (judged message))
  pub front : List ℕ
  pub front_is : IsFront front (written_of rules.allows rules.aad (judged message))
  pub writes : Appends old.written new.written front

-- the item was stopped: while it was written, or before that for being out of memory, with nothing
-- written
abbrev pub ItemFails : {T : Type 0} → ItemRules T → List ℕ → Tree → ItemSight T → ItemSight T
    → ItemFault → Type 0
ItemFails rules bytes t old new fault.Write = HalfWritten rules bytes t old new
ItemFails rules bytes t old new fault.Memory =
    (new.written ≡ old.written) × ((new.told ≡ old.told) ⊎ Half rules bytes t old new)

-- what became of the item: it went through, or was stopped
abbrev pub IsHandled : {T : Type 0} → ItemRules T → List ℕ → Tree → ItemSight T → ItemSight T
    → Result Verdict ItemFault → Type 0
IsHandled rules bytes t old new result =
    MatchResult result (WentThrough rules bytes t old new) (ItemFails rules bytes t old new)

-- what a fault of writing leaves: a beginning of the encoding. Writing takes no memory.
abbrev pub IsWriteFault : Option (List ℕ) → Option (List ℕ) → List ℕ → ItemFault → Type 0
IsWriteFault written written' text fault.Write = AppendsFront written written' text
IsWriteFault written written' text fault.Memory = ⊥

-- how often the writer has failed
abbrev pub item_failures : {T : Type 0} → Result T ItemFault → ℕ
item_failures (Ok v) = 0
item_failures (Err fault.Write) = 1
item_failures (Err fault.Memory) = 0

-- whether a fault is an end of the bytes
abbrev pub at_end : {E : Type 0} → (E → Bool) → Error E → Bool
at_end ends (de.Io e) = ends e
at_end ends e = false

-- what stops the gate if no item was read
abbrev pub fault_by : {E : Type 0} → Error E → GateFault E
fault_by (de.Io e) = gating.Decode (de.Io e)
fault_by (de.Syntax p) = gating.Decode (de.Syntax p)
fault_by (de.Semantic o k) = gating.Decode (de.Semantic o k)
fault_by de.RecursionLimitExceeded = gating.Decode de.RecursionLimitExceeded
fault_by de.Memory = gating.Memory
fault_by de.TooLong = gating.Decode de.TooLong

-- what stops the gate in an item
abbrev pub stopped_by : {E : Type 0} → ItemFault → GateFault E
stopped_by fault.Write = gating.Write
stopped_by fault.Memory = gating.Memory
