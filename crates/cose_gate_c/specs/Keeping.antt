-- What is kept of a question, so that its record can be written without the payload.
use Rattle.std.specs.Prelude.{◌≡◌, ℕ, ◌+◌, ◌-◌, ◌⊎◌, List, ◌++◌, length, take, Option, None, Some, option_map}
use Rattle.cose_gate.specs.Questions.{Question, Subject}
use Rattle.cose_gate.specs.Records.{front_of}
use Rattle.cose_gate_c.specs.StreamAsking.{IsUnasked, HoldsRecord}
use Rattle.cose_gate_c.specs.declared.keeping.Keeper.{Keeper}
use Rattle.cose_gate_c.specs.declared.keeping.Signature.{Signature}
use Rattle.cose_gate_c.specs.declared.keeping.Signature.TheVariants.{Awaited, Kept, Lost}
use Rattle.cose_gate.specs.declared.checking.Place.{Place}
use Rattle.cose_gate_c.specs.declared.stream_asking.StreamQuestion.{StreamQuestion}
use Rattle.cose_gate_c.specs.declared.question_writing.Sizes.{Sizes}

-- the front of the question's key, as many of its first covered bytes as there is room for, how many
-- it covers, and its signature or tag
pub record Gist : Type 0 where
  pub front : List ℕ
  pub covered : List ℕ
  pub count : ℕ
  pub signature : List ℕ

abbrev pub gist_of : ℕ → Question → Gist
gist_of room q = record {
  front = front_of q.subject;
  covered = take room q.covered;
  count = length q.covered;
  signature = q.signature;
}

-- the signature or tag, also if memory ran out for it
abbrev pub signature_held : Signature → Option (List ℕ)
signature_held Awaited = None
signature_held (Kept signature) = Some signature.items
signature_held (Lost signature) = Some signature.items

-- what a keeper has of the last question, if there was one
pub record Told : Type 0 where
  pub room : ℕ
  pub gist : Option Gist

abbrev pub told_of_keeper : Keeper → Told
told_of_keeper k = record {
  room = k.room;
  gist = option_map (λ signature. record {
    front = k.front.items;
    covered = k.kept.items;
    count = k.covered;
    signature = signature;
  }) (signature_held k.signature);
}

-- before the first question, and after one more
abbrev pub nothing_told : ℕ → Told
nothing_told room = record { room = room; gist = None }

abbrev pub told_with : Told → Question → Told
told_with told q = record { room = told.room; gist = Some (gist_of told.room q) }

-- a question about this subject is begun, with these covered bytes
pub record IsKeeping (k : Keeper) (subject : Subject) (covered : List ℕ) : Type 0 where
  pub is_awaiting : signature_held k.signature ≡ None
  pub front_is : k.front.items ≡ front_of subject
  pub kept_are : k.kept.items ≡ take k.room covered
  pub count_is : k.covered ≡ length covered

-- how long the parts of a record are, if the lengths of these are known
pub record AreSizes (front covered payload signature : ℕ) (sizes : Sizes) : Type 0 where
  pub key_is : sizes.key ≡ 16 + (front + covered + signature)
  pub head_is : sizes.head ≡ 16 + front + (covered - payload)
  pub whole_is : sizes.whole ≡ sizes.head + 8 + signature

-- the record of the question is written without this payload: of a message of this size, with its
-- payload in this place
pub record WritesRecord (question : Question) (payload : List ℕ) (place : Place) (size : ℕ)
    (old new : List ℕ) (answer : StreamQuestion) : Type 0 where
  pub written : HoldsRecord question payload old new answer
  pub length_is : answer.length ≡ size
  pub payload_is : answer.payload ≡ place.at
  pub payload_length_is : answer.payload_length ≡ place.length

-- if what is kept is of a question whose covered bytes end with a payload of this length, its record
-- is written, or memory ran out
abbrev pub WritesIfKept : Option Gist → Place → ℕ → List ℕ → List ℕ → StreamQuestion → Type 0
WritesIfKept gist place size old new answer =
    (question : Question) (head payload : List ℕ) → gist ≡ Some (gist_of (length old) question)
    → question.covered ≡ head ++ payload → place.length ≡ length payload
    → WritesRecord question payload place size old new answer ⊎ ((new ≡ old) × IsUnasked 4 7 answer)
