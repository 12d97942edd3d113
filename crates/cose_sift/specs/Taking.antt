-- An item that is taken head by head.
use Rattle.std.specs.Prelude.{◌≡◌, ℕ, ◌+◌, ◌/◌, ◌<◌, ◌≤◌, ◌⊎◌, List, ◌++◌, length, MatchBool, Bool, if◌then◌else◌, Option, Some, None, Result, Ok, Err}
use Rattle.ciborium_ll.specs.Seen.{Seen, Takes}
use Rattle.ciborium_ll.specs.Title.{Title, IsCut, StartsBad}
use Rattle.ciborium_ll.specs.declared.hdr.Error.{Error}
use Rattle.ciborium_ll.specs.declared.hdr.Error.TheVariants as code
use Rattle.ciborium_ll.specs.declared.hdr.Header.{Header}
use Rattle.cose_sift.specs.declared.items.Halt.{Halt}
use Rattle.cose_sift.specs.declared.items.Halt.TheVariants as halt
use Rattle.cose_sift.specs.declared.taking.Stop.{Stop}
use Rattle.cose_sift.specs.declared.taking.Stop.TheVariants as stop
use Rattle.cose_sift.specs.declared.taking.Taking.{Taking}
use Rattle.cbor_walk.specs.declared.walk.Fault.{Fault}
use Rattle.cbor_walk.specs.declared.walk.Fault.TheVariants as fault
use Rattle.cbor_walk.specs.Grammar.{Item}
use Rattle.cbor_walk.specs.Walking.{Then, Long, Refuses, IsDeep, IsNothing, wanted_by}
use Rattle.cbor_walk.specs.Walking.{IsDue as IsWalking}

-- what is due of the item
abbrev pub due_by : Taking → List ℕ → Type 0
due_by t = Then (Long t.body) (wanted_by t.walk)

abbrev pub IsDue : Taking → Type 0
IsDue t = t.body ≡ 0 → IsWalking t.walk

-- the bytes that are kept of `x`: all, or none if they are more than the most
abbrev pub Held : Taking → List ℕ → Type 0
Held t x = MatchBool t.is_long (t.max < length x) ((t.bytes.items ≡ x) × (length x ≤ t.max))

-- no bytes that begin what is to come are P, if that is known
abbrev pub BeginsNone : (List ℕ → Type 0) → Option (List ℕ) → Type 0
BeginsNone P None = Unit {0}
BeginsNone P (Some b) = (i behind : List ℕ) → P i → i ++ behind ≡ b → ⊥

abbrev pub IfKnown : Option (List ℕ) → (List ℕ → Type 0) → Type 0
IfKnown None P = Unit {0}
IfKnown (Some b) P = P b

-- why a read failed; `end` if the input ended
abbrev pub stop_of : {E : Type 0} → (E → Bool) → Stop → Error E → Stop
stop_of ends end (code.Io e) = if ends e then end else stop.Input
stop_of ends end (code.Syntax p) = stop.Syntax p
stop_of ends end code.TooLong = stop.TooLong
stop_of ends end code.Waiting = stop.Input

-- how often the reader has failed after this: once more only if it says so
abbrev pub failures_by : Stop → ℕ → ℕ
failures_by stop.Input n = n + 1
failures_by e n = n

abbrev pub failures_of : {T : Type 0} → Result T Stop → ℕ → ℕ
failures_of (Ok x) n = n
failures_of (Err s) n = failures_by s n

abbrev pub failures_at : Halt → ℕ → ℕ
failures_at (halt.Decode s) n = failures_by s n
failures_at halt.Write n = n

abbrev pub failures_after : {T : Type 0} → Result T Halt → ℕ → ℕ
failures_after (Ok x) n = n
failures_after (Err h) n = failures_at h n

-- how often the writer has failed after this: once more only if it says so
abbrev pub writer_failures : {T : Type 0} → Result T Halt → ℕ → ℕ
writer_failures (Ok x) n = n
writer_failures (Err (halt.Decode s)) n = n
writer_failures (Err halt.Write) n = n + 1

-- why the walk stopped at a head
abbrev pub stopped_at : ℕ → Fault → Stop
stopped_at at fault.Syntax = stop.Syntax at
stopped_at at fault.Deep = stop.Deep
stopped_at at fault.Memory = stop.Memory

-- why a head wasn't taken
abbrev pub HeadFails : Seen → Seen → Stop → Type 0
HeadFails old new (stop.Syntax p) = (p ≡ old.offset) × Takes old new StartsBad
HeadFails old new stop.End = (new.offset ≡ old.offset) × IfKnown old.left IsNothing
HeadFails old new stop.Cut = IfKnown old.left IsCut
HeadFails old new stop.Deep = ⊥
HeadFails old new e = Unit {0}

-- one head, or bytes the first of which begins none
abbrev pub IsHead : List ℕ → Type 0
IsHead x = ((h : Header) × Title x h) ⊎ StartsBad x

-- why an item of which P is due doesn't go on
abbrev pub StepFails : (List ℕ → Type 0) → Seen → Seen → Stop → Type 0
StepFails P old new (stop.Syntax p) = (p ≡ old.offset) × Takes old new (λ x. IsHead x × Refuses P x)
StepFails P old new stop.End = (new.offset ≡ old.offset) × IfKnown old.left IsNothing × BeginsNone P old.left
StepFails P old new stop.Cut = BeginsNone P old.left
StepFails P old new e = Unit {0}

-- why no item was taken; the input was at its end if it ends before a head and nothing was taken
abbrev pub ItemFails : Seen → Seen → Halt → Type 0
ItemFails old new (halt.Decode (stop.Syntax p)) = (p ≤ new.offset) × Takes old new (Refuses Item)
ItemFails old new (halt.Decode stop.End) = (new.offset ≡ old.offset → IfKnown old.left IsNothing) × BeginsNone Item old.left
ItemFails old new (halt.Decode stop.Cut) = BeginsNone Item old.left
ItemFails old new e = Unit {0}

-- so many items of indefinite length may be open in an item of which `max` bytes are kept
abbrev pub most_of : ℕ → ℕ
most_of max = 256 + max / 16

-- more are open in one of which P is due, or too many items are due
abbrev pub DeepAt : (List ℕ → Type 0) → ℕ → Seen → Seen → Stop → Type 0
DeepAt P most old new stop.Deep = Takes old new (IsDeep P most)
DeepAt P most old new other = Unit {0}

abbrev pub ItemDeepAt : ℕ → Seen → Seen → Halt → Type 0
ItemDeepAt most old new (halt.Decode s) = DeepAt Item most old new s
ItemDeepAt most old new halt.Write = Unit {0}

-- no item begins with `x`, though one does with its first n bytes, after which it is one head, or
-- bytes the first of which begins none
pub record StopsAt (n : ℕ) (x : List ℕ) : Type 0 where
  pub front : List ℕ
  pub head : List ℕ
  pub whole : x ≡ front ++ head
  pub place : length front ≡ n
  pub begins : (rest : List ℕ) × Item (front ++ rest)
  pub is_head : IsHead head
  pub refused : Refuses Item x

-- the place that a syntax fault names
abbrev pub IsPlace : Seen → Seen → Halt → Type 0
IsPlace old new (halt.Decode (stop.Syntax p)) = (n : ℕ) × (p ≡ old.offset + n) × Takes old new (StopsAt n)
IsPlace old new e = Unit {0}
