-- What the streaming calls over memory find, and what the check of these returns.
use Rattle.std.specs.Prelude.{◌≡◌, ℕ, ◌⊎◌, List, [], ◌∷◌, ◌++◌, length, Some, Bool, if◌then◌else◌, false}
use Rattle.coset_labels.specs.Limits.{AreLimits}
use Rattle.coset_labels.specs.Reading.{HasItem, WrongItem}
use Rattle.cose_gate.specs.Faults.{CoseFault}
use Rattle.cose_gate.specs.Findings.{Bounds, IsJudged, within}
use Rattle.cose_gate.specs.Front.{Reads}
use Rattle.cose_gate.specs.HmacJudges.{says_yes}
use Rattle.cose_gate.specs.KeyFields.{KeyFields}
use Rattle.cose_gate.specs.Keys.{HasKeySet}
use Rattle.cose_gate.specs.Questions.{Question, MessageFields, all_questions, payload_of}
use Rattle.cose_gate.specs.Stated.{IsSingle, Stated}
use Rattle.cose_gate.specs.StreamFaults.{Why, damaged, untagged, tagged, shape, without_payload, without_length, refused}
use Rattle.cose_gate.specs.Streaming.{UnstreamedBy}
use Rattle.cose_gate.specs.Tree.{Tree}
use Rattle.cose_gate.specs.WrongKeys.{WrongKeySet}
use Rattle.cose_gate.specs.declared.fault.StreamFault.{StreamFault}
use Rattle.cose_gate.specs.declared.fault.StreamFault.TheVariants as fault
use Rattle.cose_gate_c.specs.Places.{Lies}
use Rattle.cose_gate_c.specs.declared.streaming.StreamAnswer.{StreamAnswer}

-- the number of a fault, as C has it; 0 is none
abbrev pub number_of : Why → ℕ
number_of untagged = 1
number_of (tagged n) = 2
number_of (shape e) = 3
number_of without_payload = 4
number_of without_length = 5
number_of (damaged f) = 6
number_of refused = 7

abbrev pub fault_number : {E : Type 0} → StreamFault E → ℕ
fault_number fault.NotTagged = 1
fault_number (fault.OtherTag n) = 2
fault_number (fault.Shape e) = 3
fault_number fault.Detached = 4
fault_number fault.Unsized = 5
fault_number (fault.Decode e) = 6
fault_number fault.Memory = 7

-- within these limits the bytes are one message that states its payload's length in front, and it
-- has one question
pub record HasQuestion (limits : Bounds) (aad b : List ℕ) : Type 0 where
  pub item : Tree
  pub message : MessageFields
  pub size : ℕ
  pub question : Question
  pub reads : Reads b limits.nesting item
  pub is : IsJudged limits item message
  pub single : IsSingle message
  pub stated : Stated b size
  pub asked : all_questions message aad ≡ Some (question ∷ [])

-- the bytes begin with such a message, which has so many bytes, and its payload lies there in it
pub record IsInFront (limits : Bounds) (aad input : List ℕ) (size at count : ℕ) : Type 0 where
  pub front : List ℕ
  pub rest : List ℕ
  pub whole : input ≡ front ++ rest
  pub asked : HasQuestion limits aad front
  pub payload : List ℕ
  pub is_payload : payload_of asked.message ≡ Some payload
  pub lies : Lies payload at count front
  pub size_is : size ≡ length front

-- the bytes begin with none, or memory ran out: what this fault says of them is true, and its
-- number is said
pub record IsStopped (limits : Bounds) (input : List ℕ) (IsSaid : ℕ → Type 0) : Type 0 where
  pub why : Why
  pub shown : UnstreamedBy limits (length input) input why
  pub said : IsSaid (number_of why)

-- if the bytes begin with such a message, there is no fault, or memory ran out
abbrev pub IsFoundIfStated : Bounds → List ℕ → ℕ → Type 0
IsFoundIfStated limits input number =
    (item : Tree) (front rest : List ℕ) (message : MessageFields) (size : ℕ)
    → input ≡ front ++ rest → Reads front limits.nesting item → IsJudged limits item message
    → IsSingle message → Stated front size → (number ≡ 0) ⊎ (number ≡ 7)

-- nothing was checked, and this says why
pub record IsUnchecked (status fault : ℕ) (answer : StreamAnswer) : Type 0 where
  pub status_is : answer.status ≡ status
  pub fault_is : answer.fault ≡ fault
  pub length_is : answer.length ≡ 0
  pub payload_is : answer.payload ≡ 0
  pub payload_length_is : answer.payload_length ≡ 0

-- the bytes begin with such a message: 0 after a yes to its question, 1 after a no, how long the
-- message is, and where its payload lies in it
pub record IsChecked (limits : Bounds) (allows : Question → Bool) (aad input : List ℕ)
    (answer : StreamAnswer) : Type 0 where
  pub found : IsInFront limits aad input answer.length answer.payload answer.payload_length
  pub status_is : answer.status ≡ (if allows found.asked.question then 0 else 1)
  pub fault_is : answer.fault ≡ 0

-- what the check of the message in front comes to, by a judge
pub record ChecksFront (limits : Bounds) (allows : Question → Bool) (aad input : List ℕ)
    (answer : StreamAnswer) : Type 0 where
  pub ended : IsChecked limits allows aad input answer
      ⊎ IsStopped limits input (λ fault. IsUnchecked 4 fault answer)
  pub stated : IsFoundIfStated limits input answer.fault

-- what the call comes to: the limits are looked at before the keys, and the keys before the message
pub data StreamChecks (nesting layers : ℕ) (keys aad input : List ℕ) (answer : StreamAnswer)
    : Type 0 where
  no_limits : (AreLimits nesting layers → ⊥) → IsUnchecked 2 0 answer
      → StreamChecks nesting layers keys aad input answer
  no_keys : (e : CoseFault) → AreLimits nesting layers → WrongItem WrongKeySet keys e
      → IsUnchecked 3 0 answer → StreamChecks nesting layers keys aad input answer
  no_memory : AreLimits nesting layers → IsUnchecked 4 7 answer
      → StreamChecks nesting layers keys aad input answer
  ran : (ks : List KeyFields) → AreLimits nesting layers → HasItem HasKeySet keys ks
      → ChecksFront (within nesting layers false) (says_yes ks) aad input answer
      → StreamChecks nesting layers keys aad input answer
