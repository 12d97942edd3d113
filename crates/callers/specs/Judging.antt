-- What a judge by key ids says, and what a relay with it gives.
use Rattle.std.specs.Prelude.{◌≡◌, ℕ, List, [], ◌∷◌, ◌++◌, length, map, Bool, not, ◌&&◌, ◌==◌}
use Rattle.std.specs.List.{list_any}
use Rattle.std.specs.Str.{bytes_eq}
use Rattle.cose_gate.specs.Fields.{HeaderFields, header, ProtectedFields, protected}
use Rattle.cose_gate.specs.Findings.{usual}
use Rattle.cose_gate.specs.Questions.{Subject, Question}
use Rattle.cose_gate.specs.Asked.{IsFront, folded_over}
use Rattle.cose_gate.specs.Run.{Step, Course, questions_of, output_of, entries_of, passed_count, refused_count}
use Rattle.cose_gate.specs.Outcome.{IsFaultOf}
use Rattle.cose_gate.specs.Counts.{Counts}
use Rattle.cose_gate.specs.GateFault.{GateFault}
use Rattle.cose_gate.specs.GateFault.TheVariants.{Decode, Write, Memory}
use Rattle.callers.specs.Tallies.{Tallied, tallied}

-- the key id of a message: the protected one if there is one, else the unprotected one (RFC 9052,
-- section 3.1)
abbrev pub id_or : List ℕ → List ℕ → List ℕ
id_or [] other = other
id_or (b ∷ bs) other = b ∷ bs

abbrev pub header_key_id : HeaderFields → List ℕ
header_key_id (header p ss) = p.key_id

abbrev pub protected_key_id : ProtectedFields → List ℕ
protected_key_id (protected o h) = header_key_id h

abbrev pub key_id_of : Subject → List ℕ
key_id_of s = id_or (protected_key_id s.protected) (header_key_id s.unprotected)

abbrev pub has_bytes : List ℕ → Bool
has_bytes id = not (length id == 0)

-- the ids hold this one; an empty one is no id
abbrev pub knows : List (List ℕ) → List ℕ → Bool
knows ids id = has_bytes id && list_any (λ known. bytes_eq known id) ids

-- the rule of the judge
abbrev pub allows : List (List ℕ) → Question → Bool
allows ids q = knows ids (key_id_of q.subject)

-- what the judge was asked about, and what the tally counts
pub record Sides : Type 0 where
  pub asked : List (List ℕ)
  pub tally : Tallied

-- the key ids that questions are about
abbrev pub key_ids_of : List Question → List (List ℕ)
key_ids_of qs = map (λ q. key_id_of q.subject) qs

-- the whole input was gone through: the output is that of its steps under this rule, and the counts
-- are theirs; the judge was asked their questions, and the tally counts them
pub record Relayed (ids : List (List ℕ)) (aad input : List ℕ) (old new : Sides) (output : List ℕ)
    (counts : Counts) : Type 0 where
  pub steps : List Step
  pub course : Course usual (allows ids) aad 0 input steps []
  pub output_is : output ≡ output_of (allows ids) aad steps
  pub passed : counts.passed ≡ passed_count (allows ids) aad steps
  pub refused : counts.refused ≡ refused_count (allows ids) aad steps
  pub asked : new.asked ≡ old.asked ++ key_ids_of (questions_of (allows ids) aad steps)
  pub tally : new.tally ≡ folded_over tallied old.tally (entries_of steps)

-- what is relayed of a run of the whole input: its output, with nothing left, and as many passed
-- and refused as its steps
pub record RelayedRun (ids : List (List ℕ)) (aad : List ℕ) (ss : List Step) (rest output : List ℕ)
    (counts : Counts) : Type 0 where
  pub output_is : output ≡ output_of (allows ids) aad ss
  pub rest_is : rest ≡ []
  pub passed : counts.passed ≡ passed_count (allows ids) aad ss
  pub refused : counts.refused ≡ refused_count (allows ids) aad ss

-- a relay of what a relay wrote changes nothing: the same bytes, as many messages pass as passed,
-- and none is refused
pub record Unchanged (once again : List ℕ) (first second : Counts) : Type 0 where
  pub output : again ≡ once
  pub passed : second.passed ≡ first.passed
  pub refused : second.refused ≡ 0

-- after Decode no step is begun, and the fault is that of the bytes `more`
abbrev pub IsDue : {E : Type 0} → (E → Bool) → ℕ → List ℕ → List Step → GateFault E → Type 0
IsDue ends stop more last (Decode e) = (last ≡ []) × IsFaultOf ends usual.nesting stop more e
IsDue ends stop more last Write = Unit {0}
IsDue ends stop more last Memory = Unit {0}

-- the input was gone through up to some place: the judge was asked the questions of the steps that
-- are done and a beginning of those of the last, and the tally counts the steps that are done
pub record Halted {E : Type 0} (ends : E → Bool) (ids : List (List ℕ)) (aad input : List ℕ)
    (old new : Sides) (fault : GateFault E) : Type 0 where
  pub done : List Step
  pub last : List Step
  pub more : List ℕ
  pub course : Course usual (allows ids) aad 0 input (done ++ last) more
  pub asked : List Question
  pub asked_front : IsFront asked (questions_of (allows ids) aad last)
  pub told : new.asked ≡ old.asked ++ key_ids_of (questions_of (allows ids) aad done ++ asked)
  pub tally : new.tally ≡ folded_over tallied old.tally (entries_of done)
  pub due : IsDue ends (length input) more last fault
