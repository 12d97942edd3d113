-- What runs have in common.
use Rattle.std.specs.Prelude.{◌≡◌, ℕ, List, [], ◌∷◌, ◌++◌, length, map, Bool, false, Result, Ok, Err, IfOk}
use Rattle.cose_gate_core.specs.Questions.{Question}
use Rattle.cose_gate_core.specs.Asked.{IsFront}
use Rattle.cose_gate_core.specs.Run.{Step, Run, asked_of, passes, questions_of, output_of, entries_of, passed_count, refused_count}
use Rattle.cose_gate_core.specs.Anew.{entry_behind, AreEntries, SameEntries, SameVerdicts, EntriesBegin}
use Rattle.cose_gate_core.specs.GateRun.{GateRun, asked_in, written_in, IfOfBytes}
use Rattle.cose_gate_core.specs.Misshapen.{NamesShapes}
use Rattle.cose_gate_core.specs.Next.{Made}
use Rattle.cose_gate_core.specs.Outcome.{Rules, GateState}
use Rattle.cose_gate_core.specs.declared.gating.Counts.{Counts}
use Rattle.cose_gate_core.specs.declared.gating.GateFault.{GateFault}
use Rattle.cose_gate_core.specs.declared.gating.GateFault.TheVariants.{Decode}

-- P holds if the gate went through all items: neither reader nor writer failed, memory was found,
-- and offsets fit
abbrev pub IfThrough : {E : Type 0} → (E → Bool) → Result Counts (GateFault E) → Type 0 → Type 0
IfThrough ends (Ok counts) P = P
IfThrough ends (Err (Decode e)) P = IfOfBytes ends P e
IfThrough ends (Err fault) P = Unit {0}

-- the steps of the run of b were made, whose shapes name faults that are there; and with Ok so many
-- passed and were refused, and nothing is left
pub record MadeRun {T S E : Type 0} (rules : Rules T S) (old new : GateState T S) (b : List ℕ)
    (result : Result Counts (GateFault E)) : Type 0 where
  pub steps : List Step
  pub rest : List ℕ
  pub run : Run rules.limits rules.allows rules.aad old.offset b steps rest
  pub made : Made rules old new steps
  pub shapes : NamesShapes rules.limits steps
  pub counted : IfOk result (λ n. (n.passed ≡ passed_count rules.allows rules.aad steps)
      × (n.refused ≡ refused_count rules.allows rules.aad steps) × (rest ≡ []))

-- what was asked and written in a run of the gate is a beginning of what these steps say, and
-- what was noted stands for the first of them
pub record BeginsSteps {E : Type 0} (allows : Question → Bool) (aad : List ℕ) (run : GateRun E)
    (ss : List Step) : Type 0 where
  pub asked : IsFront (asked_in allows aad run) (questions_of allows aad ss)
  pub written : IsFront (written_in allows aad run) (output_of allows aad ss)
  pub noted : (front : List Step) × IsFront front ss
      × AreEntries allows aad front (entries_of run.done)

-- the steps ss are a beginning of the steps rs: their items, questions, output and entries
pub record BeginsRun (allows : Question → Bool) (aad : List ℕ) (ss rs : List Step) : Type 0 where
  pub items : IsFront (map (λ s. s.item) ss) (map (λ s. s.item) rs)
  pub questions : IsFront (questions_of allows aad ss) (questions_of allows aad rs)
  pub output : IsFront (output_of allows aad ss) (output_of allows aad rs)
  pub entries : EntriesBegin (entries_of ss) (entries_of rs)

-- the steps ts say what ss say, and then what rs say so many bytes further on; what is left after
-- ts is what is left after rs
pub record JoinsRuns (allows : Question → Bool) (aad : List ℕ) (bytes : ℕ) (ss rs ts : List Step)
    (rest more : List ℕ) : Type 0 where
  pub questions : questions_of allows aad ts
      ≡ questions_of allows aad ss ++ questions_of allows aad rs
  pub output : output_of allows aad ts ≡ output_of allows aad ss ++ output_of allows aad rs
  pub entries : SameEntries (entries_of ts)
      (entries_of ss ++ map (entry_behind (length ss) bytes) (entries_of rs))
  pub rest_is : more ≡ rest

-- the steps ts say what xs and ys say; of xs, s and ys the questions are those of each, and if s
-- doesn't pass the output is that of ts; what is left is the same
pub record LeavesOut (allows : Question → Bool) (aad : List ℕ) (xs : List Step) (s : Step)
    (ys ts : List Step) (rest more : List ℕ) : Type 0 where
  pub questions : questions_of allows aad (xs ++ s ∷ ys) ≡ questions_of allows aad xs
      ++ (asked_of allows aad s.finding ++ questions_of allows aad ys)
  pub others : questions_of allows aad ts
      ≡ questions_of allows aad xs ++ questions_of allows aad ys
  pub output : passes allows aad s.finding ≡ false
      → output_of allows aad ts ≡ output_of allows aad (xs ++ s ∷ ys)
  pub rest_is : more ≡ rest

-- the steps say the same: their questions, output and verdicts
pub record SayTheSame (allows : Question → Bool) (aad : List ℕ) (ss rs : List Step) : Type 0 where
  pub questions : questions_of allows aad ss ≡ questions_of allows aad rs
  pub output : output_of allows aad ss ≡ output_of allows aad rs
  pub verdicts : SameVerdicts (entries_of ss) (entries_of rs)
