-- What runs have in common, and the steps of a run at other places.
use Rattle.std.specs.Prelude.{◌≡◌, ℕ, ◌+◌, ◌⊎◌, List, [], ◌∷◌, ◌++◌, flat_map, Bool}
use Rattle.coset_labels.specs.declared.error.CoseError.{CoseError}
use Rattle.cose_gate_core.specs.declared.report.Entry.{Entry}
use Rattle.cose_gate_core.specs.declared.report.Verdict.{Verdict}
use Rattle.cose_gate_core.specs.declared.report.Verdict.TheVariants.{Refused}
use Rattle.cose_gate_core.specs.declared.report.Refusal.TheVariants as refusal
use Rattle.cose_gate_core.specs.Questions.{Question}
use Rattle.cose_gate_core.specs.Run.{Step, IsVerdict}

-- the bytes of the items, one after another
abbrev pub bytes_of : List Step → List ℕ
bytes_of ss = flat_map (λ s. s.item.bytes) ss

-- an entry further on by so many items and bytes
abbrev pub entry_behind : ℕ → ℕ → Entry → Entry
entry_behind items bytes e =
    record { number = e.number + items; offset = e.offset + bytes; verdict = e.verdict }

-- the same verdict; of a shape's fault it isn't said which of the value's faults is named
abbrev pub SameVerdict : Verdict → Verdict → Type 0
SameVerdict v w =
    (v ≡ w)
    ⊎ ((e f : CoseError) × (v ≡ Refused (refusal.Shape e)) × (w ≡ Refused (refusal.Shape f)))

abbrev pub SameEntry : Entry → Entry → Type 0
SameEntry e f = (e.number ≡ f.number) × (e.offset ≡ f.offset) × SameVerdict e.verdict f.verdict

-- entries that say the same, in order
abbrev pub SameEntries : List Entry → List Entry → Type 0
SameEntries [] [] = Unit {0}
SameEntries [] (f ∷ fs) = ⊥
SameEntries (e ∷ es) [] = ⊥
SameEntries (e ∷ es) (f ∷ fs) = SameEntry e f × SameEntries es fs

-- verdicts that are the same, in order
abbrev pub SameVerdicts : List Entry → List Entry → Type 0
SameVerdicts [] [] = Unit {0}
SameVerdicts [] (f ∷ fs) = ⊥
SameVerdicts (e ∷ es) [] = ⊥
SameVerdicts (e ∷ es) (f ∷ fs) = SameVerdict e.verdict f.verdict × SameVerdicts es fs

-- the entries `es` say the same as the first entries of `fs`
pub record EntriesBegin (es fs : List Entry) : Type 0 where
  pub front : List Entry
  pub more : List Entry
  pub whole : fs ≡ front ++ more
  pub same : SameEntries es front

-- the entries of these steps: each has its item's number and offset, and a verdict that stands for
-- what is found of it; of a shape's fault it isn't said which of the value's faults is named
abbrev pub AreEntries : (Question → Bool) → List ℕ → List Step → List Entry → Type 0
AreEntries allows aad [] [] = Unit {0}
AreEntries allows aad [] (e ∷ es) = ⊥
AreEntries allows aad (s ∷ ss) [] = ⊥
AreEntries allows aad (s ∷ ss) (e ∷ es) =
    (e.number ≡ s.entry.number)
    × (e.offset ≡ s.entry.offset)
    × IsVerdict allows aad s.finding e.verdict
    × AreEntries allows aad ss es
