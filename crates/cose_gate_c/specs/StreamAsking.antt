-- What the streaming call for a question over memory returns.
use Rattle.std.specs.Prelude.{◌≡◌, ℕ, ◌<◌, ◌≤◌, ◌⊎◌, List, ◌++◌, length, drop, false}
use Rattle.coset_labels.specs.Limits.{AreLimits}
use Rattle.cose_gate.specs.Findings.{Bounds, within}
use Rattle.cose_gate.specs.Questions.{Question}
use Rattle.cose_gate.specs.RecordFraming.{framed}
use Rattle.cose_gate.specs.Records.{record_of}
use Rattle.cose_gate_c.specs.Streaming.{IsInFront, IsStopped, IsFoundIfStated}
use Rattle.cose_gate_c.specs.declared.stream_asking.StreamQuestion.{StreamQuestion}

-- nothing was asked, and this says why
pub record IsUnasked (status fault : ℕ) (answer : StreamQuestion) : Type 0 where
  pub status_is : answer.status ≡ status
  pub fault_is : answer.fault ≡ fault
  pub length_is : answer.length ≡ 0
  pub payload_is : answer.payload ≡ 0
  pub payload_length_is : answer.payload_length ≡ 0
  pub head_is : answer.head ≡ 0
  pub question_length_is : answer.question_length ≡ 0

-- the covered bytes end with the payload, and the signature or tag is behind them, after its length
-- (RFC 9052, sections 4.4 and 6.3). The record of the question without the payload is in front of
-- what was there, if it is no longer; else nothing was written.
pub record HoldsRecord (question : Question) (payload old new : List ℕ) (answer : StreamQuestion)
    : Type 0 where
  pub head : List ℕ
  pub whole : record_of question ≡ head ++ (payload ++ framed question.signature)
  pub head_is : answer.head ≡ length head
  pub question_length_is : answer.question_length ≡ length (head ++ framed question.signature)
  pub fault_is : answer.fault ≡ 0
  pub fits : answer.question_length ≤ length old → (answer.status ≡ 0)
      × (new ≡ (head ++ framed question.signature) ++ drop answer.question_length old)
  pub no_room : length old < answer.question_length → (answer.status ≡ 5) × (new ≡ old)

-- the bytes begin with a message that states its payload's length in front: how long it is, where
-- its payload lies in it, and the record of its question
pub record TellsQuestion (limits : Bounds) (aad input old new : List ℕ) (answer : StreamQuestion)
    : Type 0 where
  pub found : IsInFront limits aad input answer.length answer.payload answer.payload_length
  pub written : HoldsRecord found.asked.question found.payload old new answer

-- what asking about the message in front comes to
pub record TellsFront (limits : Bounds) (aad input old new : List ℕ) (answer : StreamQuestion)
    : Type 0 where
  pub ended : TellsQuestion limits aad input old new answer
      ⊎ ((new ≡ old) × IsStopped limits input (λ fault. IsUnasked 4 fault answer))
  pub stated : IsFoundIfStated limits input answer.fault

-- what the call comes to: the limits are looked at before the message
pub data StreamAsks (nesting layers : ℕ) (aad input old new : List ℕ) (answer : StreamQuestion)
    : Type 0 where
  no_limits : (AreLimits nesting layers → ⊥) → IsUnasked 2 0 answer → new ≡ old
      → StreamAsks nesting layers aad input old new answer
  ran : AreLimits nesting layers → TellsFront (within nesting layers false) aad input old new answer
      → StreamAsks nesting layers aad input old new answer
