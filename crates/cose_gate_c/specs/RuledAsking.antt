-- What asking by the rules over memory returns.
use Rattle.std.specs.Prelude.{◌≡◌, ℕ, ◌⊎◌, List, [], ◌∷◌, Option, None, Some, Bool}
use Rattle.std.specs.Io.KnownBytes.{Appends}
use Rattle.ciborium_ll.specs.declared.write.Write.{Ghosts as Writes}
use Rattle.coset_labels.specs.Reading.{HasItem}
use Rattle.coset_keys.specs.Fields.{KeyFields}
use Rattle.coset_keys.specs.Keys.{HasKeySet}
use Rattle.cose_rules.specs.Claims.{TermsFields}
use Rattle.cose_gate_core.specs.Findings.{Bounds, within}
use Rattle.cose_gate_program.specs.Beginning.{BeginsNot, status_of}
use Rattle.cose_gate_program.specs.Program.{Devices}
use Rattle.cose_gate_program.specs.Telling.{RanTold}
use Rattle.cose_gate_program.specs.declared.beginning.NotBegun.{NotBegun as Unbegun}
use Rattle.cose_gate_program.specs.declared.telling.Notice.{Notice}
use Rattle.cose_gate_program.specs.declared.telling.Notice.TheVariants.{NotBegun}
use Rattle.cose_gate_records.specs.Calls.{Answers, Buffers, IsCutShort, NoMemory, devices}
use Rattle.cose_gate_records.specs.Lines.{AreLinesOf}
use Rattle.cose_gate_records.specs.declared.answer.Answer.{Answer}
use Rattle.cose_ruled.specs.Blocks.{asks}
use Rattle.cose_ruled.specs.Running.{AreBlocks}

-- the gate ran and asked by the rules under these keys, and of tokens by these terms if there are
-- any; and if the writer didn't fail, it was written the blocks of the items that were done
abbrev pub WroteBlocks : {W F : Type 0} → Writes W F → Bounds → Option TermsFields → List KeyFields
    → List ℕ → Devices → Devices → W → W → ℕ → (List Notice → Type 0) → Type 0
WroteBlocks w limits token ks aad old new out out' status Told =
    (ran : RanTold limits (asks ks) aad old new status (λ _. Unit {0}) Told)
    × (blocks : List ℕ) × AreBlocks token ks aad ran.run.done blocks
    × (w.failed out' ≡ w.failed out → Appends (w.written out) (w.written out') blocks)

-- the output is the blocks of the items that were done in a run that asks by the rules under these
-- keys, and the lines are those of that run
abbrev pub TellsBlocks : Bounds → Option TermsFields → List KeyFields → List ℕ → List ℕ → List ℕ
    → ℕ → List ℕ → ℕ → Type 0
TellsBlocks limits token ks aad input lines count text status = (left : Option (List ℕ))
    × (ran : RanTold limits (asks ks) aad (devices (Some input) None) (devices left None) status
    (λ _. Unit {0}) (AreLinesOf lines count))
    × AreBlocks token ks aad ran.run.done text

-- that, or memory ran out for the blocks
abbrev pub ToldUnder : Bounds → Option TermsFields → List KeyFields → List ℕ → List ℕ → List ℕ
    → ℕ → List ℕ → ℕ → Type 0
ToldUnder limits token ks aad input lines count written status =
    TellsBlocks limits token ks aad input lines count written status
    ⊎ (NoMemory written status × IsCutShort limits (asks ks) aad input lines count)

-- the same under the keys of the set that these bytes are; if the run doesn't begin, as that of
-- `Checks`, nothing was read
abbrev pub ToldRuled : Bounds → Option TermsFields → List ℕ → List ℕ → List ℕ → List ℕ → ℕ
    → List ℕ → ℕ → Type 0
ToldRuled limits token keys aad input lines count written status =
    ((ks : List KeyFields) × HasItem HasKeySet keys ks
    × ToldUnder limits token ks aad input lines count written status)
    ⊎ ((why : Unbegun) × BeginsNot (Some keys) (Some aad) why × (written ≡ [])
    × (status ≡ status_of why) × AreLinesOf lines count (NotBegun why ∷ []))

abbrev pub AsksRuled : ℕ → ℕ → Bool → Option TermsFields → List ℕ → List ℕ → List ℕ → Buffers
    → Buffers → Answer → Type 0
AsksRuled nesting layers strict token keys aad input old new answer =
    Answers nesting layers
    (ToldRuled (within nesting layers strict) token keys aad input new.lines answer.lines)
    old new answer
