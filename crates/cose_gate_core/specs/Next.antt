-- How far the gate has come, and what one item more makes of that.
use Rattle.std.specs.Prelude.{◌≡◌, ◌≢◌, ℕ, ◌+◌, ◌^◌, ◌<◌, ◌⊎◌, List, [], ◌∷◌, ◌++◌, length, map, Option, Some, None, Bool, Result, Ok, Err}
use Rattle.std.specs.Io.KnownBytes.{Appends}
use Rattle.ciborium_ll.specs.Reading.{Moves}
use Rattle.ciborium_ll.specs.Seen.{Seen, Takes}
use Rattle.ciborium_value.specs.Tree.{Tree}
use Rattle.ciborium.specs.Front.{Reads, HoldsOne}
use Rattle.ciborium.specs.declared.frames.Front.{Front}
use Rattle.ciborium.specs.Items.{SequenceWithin}
use Rattle.ciborium.specs.Reading.{IfKnown, IfEnd, IsNoMemory, SomeTaken}
use Rattle.cose_gate_core.specs.Asked.{folded_over}
use Rattle.cose_gate_core.specs.GateRun.{Ran}
use Rattle.cose_gate_core.specs.Misshapen.{NamesShapes}
use Rattle.cose_gate_core.specs.Outcome.{Rules, GateState, IsFaultOf}
use Rattle.cose_gate_core.specs.Passing.{ItemRules, ItemSight, WentThrough, ItemFails, stopped_by}
use Rattle.cose_gate_core.specs.Terms.{IsTakenFront}
use Rattle.cose_gate_core.specs.Run.{Step, Steps, questions_of, output_of, entries_of, passed_count, refused_count}
use Rattle.cose_gate_core.specs.declared.passing.ItemFault.{ItemFault}
use Rattle.cose_gate_core.specs.declared.report.Verdict.{Verdict}
use Rattle.cose_gate_core.specs.declared.terms.Terms.{Terms}
use Rattle.cose_gate_core.specs.declared.gating.Counts.{Counts}
use Rattle.cose_gate_core.specs.declared.gating.GateFault.{GateFault}
use Rattle.cose_gate_core.specs.declared.gating.GateFault.TheVariants.{Decode, Write, Memory}

-- all of these steps were made: their questions asked, their entries noted, their output written
pub record Made {T S : Type 0} (rules : Rules T S) (old new : GateState T S)
    (ss : List Step) : Type 0 where
  pub told : new.told ≡ folded_over rules.decided old.told (questions_of rules.allows rules.aad ss)
  pub state : new.state ≡ folded_over rules.folded old.state (entries_of ss)
  pub written : Appends old.written new.written (output_of rules.allows rules.aad ss)

-- these steps were made, of which so many passed and so many were refused; they took the bytes of
-- their items
pub record Reached {T S : Type 0} (rules : Rules T S) (old new : GateState T S)
    (passed refused : ℕ) (done : List Step) : Type 0 where
  pub taken : Moves old.left new.left old.offset new.offset
      (λ b. SequenceWithin rules.limits.nesting old.offset b (map (λ s. s.item) done) [])
  pub steps : Steps rules.limits rules.allows rules.aad 1 done
  pub shapes : NamesShapes rules.limits done
  pub made : Made rules old new done
  pub passed_is : passed ≡ passed_count rules.allows rules.aad done
  pub refused_is : refused ≡ refused_count rules.allows rules.aad done

-- what reading the next item gives: it was taken, or no byte was left, and the reader tells so
-- if it tells what is to come
abbrev pub IsNext : Terms → Seen → Seen → Option (Front × Bool) → Type 0
IsNext terms old new None =
    IfKnown old.left (λ b. (b ≡ []) × (new.left ≡ Some [])) × (new.offset ≡ old.offset)
IsNext terms old new (Some r) = Takes old new (IsTakenFront terms r.0 r.1)

-- what reading the next item ends with, at the offset at' then: a fault of the bytes that were to
-- come, if they are known, or being out of memory. Some of these bytes were taken, or none, but
-- at an end some were, and out of memory none after the item that was due.
abbrev pub IsReadFault : {E : Type 0} → (E → Bool) → ℕ → Option (List ℕ) → Option (List ℕ) → ℕ → ℕ
    → GateFault E → Type 0
IsReadFault ends n left left' at at' (Decode e) =
    IsNoMemory e
    × IfKnown left (λ b. IsFaultOf ends n (at + length b) b e)
    × IfKnown left (λ b. IfEnd ends (at < at') e)
    × SomeTaken left left' at at' e
IsReadFault ends n left left' at at' Write = ⊥
IsReadFault ends n left left' at at' Memory = Moves left left' at at' HoldsOne

-- of no bytes, unless the reader fails or offsets grow too long, there is no item; and it never ends
-- out of memory
abbrev pub IfNothing : {X E : Type 0} → Seen → Seen → Result (Option X) (GateFault E) → Type 0
IfNothing old new result = old.left ≡ Some []
    → (new.failed ≡ old.failed → old.offset + 4096 < 2 ^ 64 → result ≡ Ok None) × (result ≢ Err Memory)

-- What became of the next item before it is noted. It was taken and went through, or stopped; or it
-- was not, and nothing was told or written.
abbrev pub Passes : {T E : Type 0} → (E → Bool) → ItemRules T → Option (List ℕ) → Option (List ℕ) → ℕ → ℕ
    → ItemSight T → ItemSight T → Result Verdict (GateFault E) → Type 0
Passes ends rules left left' at at' old new (Ok v) =
    (t : Tree) × Moves left left' at at' (λ b. Reads b rules.limits.nesting t × WentThrough rules b t old new v)
Passes ends rules left left' at at' old new (Err f) =
    ((t : Tree) × (i : ItemFault) × (f ≡ stopped_by i)
    × Moves left left' at at' (λ b. Reads b rules.limits.nesting t × ItemFails rules b t old new i))
    ⊎ (IsReadFault ends rules.limits.nesting left left' at at' f × (new ≡ old))

-- the same, or no byte was left
abbrev pub PassesNext : {T E : Type 0} → (E → Bool) → ItemRules T → Option (List ℕ) → Option (List ℕ) → ℕ → ℕ
    → ItemSight T → ItemSight T → Result (Option Verdict) (GateFault E) → Type 0
PassesNext ends rules left left' at at' old new (Ok (Some v)) = Passes ends rules left left' at at' old new (Ok v)
PassesNext ends rules left left' at at' old new (Ok None) =
    IfKnown left (λ b. (b ≡ []) × (left' ≡ Some [])) × (at' ≡ at) × (new ≡ old)
PassesNext ends rules left left' at at' old new (Err f) = Passes ends rules left left' at at' old new (Err f)

-- a run in which exactly these steps were done
abbrev pub RanSteps : {T S E : Type 0} → (E → Bool) → Bool → Rules T S → GateState T S
    → GateState T S → List Step → Result Counts (GateFault E) → Type 0
RanSteps ends live rules old new done result =
    (r : Ran ends live rules old new result) × (r.run.done ≡ done)

-- what became of the next item, seen from the first one on, if so many were counted before it, in
-- these steps: it was one step more, or the run ended with these
abbrev pub NextSince : {T S E : Type 0} → (E → Bool) → Bool → Rules T S → Counts
    → GateState T S → GateState T S → List Step → Result (Option Counts) (GateFault E) → Type 0
NextSince ends live rules counts first new done (Ok (Some next)) =
    (s : Step) × Reached rules first new next.passed next.refused (done ++ s ∷ [])
NextSince ends live rules counts first new done (Ok None) =
    RanSteps ends live rules first new done (Ok counts)
NextSince ends live rules counts first new done (Err fault) =
    RanSteps ends live rules first new done (Err fault)

-- the gate goes on by the next item, whatever was seen first of the items that were counted
abbrev pub GoesOn : {T S E : Type 0} → (E → Bool) → Rules T S → Counts → GateState T S → GateState T S
    → Result (Option Counts) (GateFault E) → Type 0
GoesOn {T} {S} ends rules counts old new r =
    (live : Bool) (first : GateState T S) (done : List Step)
    → Reached rules first old counts.passed counts.refused done
    → NextSince ends live rules counts first new done r
