-- How the gate asks by the rules: what is written and told of one input.
use Rattle.std.specs.Prelude.{ℕ, ◌+◌, ◌≡◌, List, [], ◌∷◌, ◌++◌, length, map, Option, None, Result, Ok, Err}
use Rattle.std.specs.Io.KnownBytes.{Appends}
use Rattle.ciborium_ll.specs.Device.{AppendsFront}
use Rattle.ciborium_ll.specs.declared.read.Read.{Ghosts as Reads}
use Rattle.ciborium_ll.specs.declared.write.Write.{Ghosts as Writes}
use Rattle.coset_keys.specs.Fields.{KeyFields}
use Rattle.cose_rules.specs.Claims.{TermsFields}
use Rattle.cose_gate_core.specs.Findings.{Bounds}
use Rattle.cose_gate_core.specs.GateRun.{Ending, unflushed}
use Rattle.cose_gate_core.specs.Run.{Step, asked_of}
use Rattle.cose_gate_core.specs.declared.gating.Counts.{Counts}
use Rattle.cose_gate_core.specs.declared.gating.GateFault.{GateFault}
use Rattle.cose_gate_core.specs.declared.gating.GateFault.TheVariants.{Decode, Write, Memory}
use Rattle.cose_gate_core.specs.declared.report.Entry.{Entry}
use Rattle.cose_gate_program.specs.Program.{Devices}
use Rattle.cose_gate_program.specs.Telling.{Gated, RanTold, tells}
use Rattle.cose_gate_program.specs.declared.devices.InputFault.{InputFault}
use Rattle.cose_gate_program.specs.declared.telling.Notice.{Notice}
use Rattle.cose_gate_program.specs.declared.telling.Notice.TheVariants.{Item}
use Rattle.cose_gate_program.specs.declared.telling.Teller.{Ghosts as Tells}
use Rattle.cose_ruled.specs.Blocks.{asks, part_of, IsBlock}

-- what is seen of a reader, and how often a writer has failed: what it was written are blocks
abbrev pub reading_into : {R E W F : Type 0} → Reads R E → Writes W F → R → W → Devices
reading_into r w input out = record {
  left = r.left input;
  written = None;
  read_failures = r.failed input;
  write_failures = w.failed out;
}

-- the block of a step: it has the step's entry, where its item ends, and what was asked about it
abbrev pub IsBlockAt : Option TermsFields → List KeyFields → List ℕ → Step → List ℕ → Type 0
IsBlockAt token keys aad s = IsBlock token s.entry (s.item.offset + length s.item.bytes)
    (map (part_of keys) (asked_of (asks keys) aad s.finding))

-- the blocks of these steps, one after another
abbrev pub AreBlocks : Option TermsFields → List KeyFields → List ℕ → List Step → List ℕ → Type 0
AreBlocks token keys aad [] blocks = blocks ≡ []
AreBlocks token keys aad (s ∷ ss) blocks = (block : List ℕ) × (more : List ℕ)
    × (blocks ≡ block ++ more) × IsBlockAt token keys aad s block × AreBlocks token keys aad ss more

-- these blocks were written; or a beginning of them, if the run ended because a block could not be
-- handed on
abbrev pub Handed : {W F E : Type 0} → Writes W F → W → W → List ℕ → Ending E → Type 0
Handed w old new blocks unflushed = AppendsFront (w.written old) (w.written new) blocks
Handed w old new blocks ending = Appends (w.written old) (w.written new) blocks

-- the gate ran over one input and asked by the rules under these keys, and of tokens by these terms:
-- result, what the teller was told, and the blocks that were written are those of one run. Out of
-- memory for a block, it stopped at the block's item, when this was done but for its entry.
abbrev pub AskedItems : {W F : Type 0} → Writes W F → Bounds → Option TermsFields → List KeyFields
    → List ℕ → Devices → Devices → W → W → Result Counts (GateFault InputFault)
    → (List Notice → Type 0) → Type 0
AskedItems w limits token keys aad old new out out' result Told =
    (gated : Gated limits (asks keys) aad old new result (λ _. Unit {0}) Told)
    × (blocks : List ℕ) × AreBlocks token keys aad gated.run.done blocks
    × Handed w out out' blocks gated.run.ending

-- the same with its end: with the status, and the last notice
abbrev pub RanAsking : {W F : Type 0} → Writes W F → Bounds → Option TermsFields → List KeyFields
    → List ℕ → Devices → Devices → W → W → ℕ → (List Notice → Type 0) → Type 0
RanAsking w limits token keys aad old new out out' status Told =
    (ran : RanTold limits (asks keys) aad old new status (λ _. Unit {0}) Told)
    × (blocks : List ℕ) × AreBlocks token keys aad ran.run.done blocks
    × Handed w out out' blocks ran.run.ending

-- what became of one block: it was handed on, and its item told; or the writer failed, and the item
-- was told; or there was no memory for it, and nothing was written or told
abbrev pub BlockHanded : {W F T : Type 0} → Writes W F → Tells T → W → W → T → T → Entry
    → (List ℕ → Type 0) → Result (Unit {0}) (GateFault InputFault) → Type 0
BlockHanded w t out out' teller teller' entry IsIt (Ok u) =
    (w.failed out' ≡ w.failed out)
    × ((block : List ℕ) × IsIt block × Appends (w.written out) (w.written out') block)
    × tells t teller teller' (Item entry ∷ [])
BlockHanded w t out out' teller teller' entry IsIt (Err Write) =
    (w.failed out' ≡ w.failed out + 1)
    × ((block : List ℕ) × IsIt block × AppendsFront (w.written out) (w.written out') block)
    × tells t teller teller' (Item entry ∷ [])
BlockHanded w t out out' teller teller' entry IsIt (Err Memory) =
    (out' ≡ out) × (teller' ≡ teller)
BlockHanded w t out out' teller teller' entry IsIt (Err (Decode e)) = ⊥
