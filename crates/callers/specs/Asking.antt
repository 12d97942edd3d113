-- What is asked and passed if the answers come from elsewhere.
use Rattle.std.specs.Prelude.{◌≡◌, ℕ, List, [], ◌++◌, flat_map, Option, Some, Bool, true}
use Rattle.cose_gate.specs.Asked.{IsFront}
use Rattle.cose_gate.specs.Counts.{Counts}
use Rattle.cose_gate.specs.Findings.{Bounds, usual}
use Rattle.cose_gate.specs.Beginning.{aad_of}
use Rattle.cose_gate.specs.KeyFields.{KeyFields}
use Rattle.cose_gate.specs.Program.{Devices}
use Rattle.cose_gate.specs.Questions.{Question}
use Rattle.cose_gate.specs.Records.{record_of}
use Rattle.cose_gate.specs.Run.{Step, Course, questions_of, output_of, passed_count, refused_count}
use Rattle.cose_gate.specs.Telling.{EndsTold}

-- the rule of a judge that tells what it is asked
abbrev pub always : Question → Bool
always = λ q. true

-- the whole input was gone through, and the records of all questions were told that it has if each
-- answer is yes, in order; so many messages have them
pub record IsAsked (aad input told told' : List ℕ) (counts : Counts) : Type 0 where
  pub steps : List Step
  pub course : Course usual always aad 0 input steps []
  pub records : told' ≡ told ++ flat_map record_of (questions_of always aad steps)
  pub passed : counts.passed ≡ passed_count always aad steps
  pub refused : counts.refused ≡ refused_count always aad steps

-- the input was gone through up to some place, and the records of a beginning of the questions up
-- to there were told
pub record IsAskedInPart (aad input told told' : List ℕ) : Type 0 where
  pub steps : List Step
  pub more : List ℕ
  pub course : Course usual always aad 0 input steps more
  pub front : List Question
  pub is_front : IsFront front (questions_of always aad steps)
  pub records : told' ≡ told ++ flat_map record_of front

-- the whole input was gone through, and what was written is the messages with a yes to each question
pub record IsPassedBy (yes : Question → Bool) (aad input output : List ℕ) (counts : Counts)
    : Type 0 where
  pub steps : List Step
  pub course : Course usual yes aad 0 input steps []
  pub output_is : output ≡ output_of yes aad steps
  pub passed : counts.passed ≡ passed_count yes aad steps
  pub refused : counts.refused ≡ refused_count yes aad steps

-- how the program ends, without what it told: by AADHEX, and if it is handed the bytes of KEYS and
-- the external data as they are
abbrev pub EndsWithin : Bounds → (List KeyFields → Question → Bool) → Option (List ℕ)
    → Option (List ℕ) → Devices → Devices → ℕ → Type 0
EndsWithin limits says keys aad old new status =
    EndsTold limits says keys (aad_of aad) old new status (λ _. Unit {0})

abbrev pub EndsOver : Bounds → (List KeyFields → Question → Bool) → List ℕ → List ℕ
    → Devices → Devices → ℕ → Type 0
EndsOver limits says keys aad old new status =
    EndsTold limits says (Some keys) (Some aad) old new status (λ _. Unit {0})
