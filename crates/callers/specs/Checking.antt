-- What a check of one message gives, and how a program ends.
use Rattle.std.specs.Prelude.{◌≡◌, ℕ, ◌+◌, ◌*◌, ◌<◌, List, [], ◌∷◌, ◌++◌, length, sum, Bool, Some}
use Rattle.cose_gate.specs.Findings.{usual, IsJudged}
use Rattle.cose_gate.specs.Front.{Reads}
use Rattle.cose_gate.specs.Items.{nesting}
use Rattle.cose_gate.specs.Questions.{Question, MessageFields, all_questions}
use Rattle.cose_gate.specs.Stated.{Stated}
use Rattle.cose_gate.specs.Tree.{Tree}

-- the bytes are one message, it has one question, and the answer is the one to that question
pub record IsAnswered (allows : Question → Bool) (aad : List ℕ) (yes : Bool)
    (b : List ℕ) : Type 0 where
  pub item : Tree
  pub message : MessageFields
  pub question : Question
  pub reads : Reads b nesting item
  pub is : IsJudged usual item message
  pub asked : all_questions message aad ≡ Some (question ∷ [])
  pub answer : yes ≡ allows question

-- the bytes are a message whose payload has n bytes, and these were fed last, in no more pieces
-- than so many bytes take in this space
pub record IsFedInFew (room : ℕ) (lengths b : List ℕ) : Type 0 where
  pub n : ℕ
  pub stated : Stated b n
  pub front : List ℕ
  pub pieces : List ℕ
  pub whole : lengths ≡ front ++ pieces
  pub all : sum pieces ≡ n
  pub few : length pieces * room < n + room
