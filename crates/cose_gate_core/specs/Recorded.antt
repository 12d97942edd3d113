-- What a recorder keeps of a question, without where it lies in memory.
use Rattle.std.specs.Global.{Vec}
use Rattle.std.specs.Prelude.{◌≡◌, ℕ, List, ◌++◌, ◌-◌, ◌<◌, vec_len, vec_capacity, Option, Some, None, Bool, true, not, length, map, take, replicate}
use Rattle.std.specs.Cmp.Lexicographic.{pointwise}
use Rattle.std.specs.Bool.{nat_eq}
use Rattle.cose_gate_core.specs.declared.about.MessageKind.{MessageKind}
use Rattle.cose_gate_core.specs.declared.recorder.Asked.{Asked}
use Rattle.cose_gate_core.specs.declared.recorder.Recorder.{Recorder}
use Rattle.cose_gate_core.specs.Questions.{Subject, Question}

pub record AskedFields : Type 0 where
  pub kind : MessageKind
  pub structure : List ℕ
  pub tag_len : ℕ
  pub tag : List ℕ

abbrev pub asked_view : Asked → AskedFields
asked_view a =
    record { kind = a.kind; structure = a.structure.items; tag_len = a.tag_len; tag = a.tag }

-- the first eight bytes, with zeros in place of those that are missing
abbrev pub front_of : List ℕ → List ℕ
front_of bytes = take 8 bytes ++ replicate (8 - length bytes) 0

-- what is kept of a question: its kind, the covered bytes, and how the signature begins
abbrev pub kept_of : Question → AskedFields
kept_of q = record {
  kind = q.subject.kind;
  structure = q.covered;
  tag_len = length q.signature;
  tag = front_of q.signature;
}

-- whether a signature is another than the one that is refused
abbrev pub is_other : Option (List ℕ) → List ℕ → Bool
is_other None signature = true
is_other (Some refused) signature = not (pointwise nat_eq refused signature)

-- the signature that is refused, without where it lies
abbrev pub bytes_of : Option (Vec ℕ) → Option (List ℕ)
bytes_of None = None
bytes_of (Some v) = Some v.items

-- the questions that a recorder was asked, in order
abbrev pub asked_of : Recorder → List AskedFields
asked_of r = map asked_view r.asked.items

-- the signature that it says no to
abbrev pub refused_of : Recorder → Option (List ℕ)
refused_of r = bytes_of r.no

-- the lengths of the pieces that it was fed since it began
abbrev pub pieces_of : Recorder → List ℕ
pieces_of r = r.pieces.items

-- it holds a begun question, with these covered bytes, and has space for it
abbrev pub holds_question : Recorder → Subject → List ℕ → Type 0
holds_question r subject bytes =
    (r.kind ≡ subject.kind) × (r.structure.items ≡ bytes) × (vec_len r.asked < vec_capacity r.asked)

-- it has the pieces that it had, and holds the question that it held
abbrev pub IsKept : Recorder → Recorder → Type 0
IsKept old new = (pieces_of new ≡ pieces_of old)
    × ((subject : Subject) (bytes : List ℕ) → holds_question old subject bytes
    → holds_question new subject bytes)
