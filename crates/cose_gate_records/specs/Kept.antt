-- What is held and kept of questions.
use Rattle.std.specs.Prelude.{◌≡◌, ℕ, List, map, Bool, true, false}
use Rattle.cose_gate_core.specs.Questions.{Subject}
use Rattle.cose_gate_records.specs.Records.{front_of}
use Rattle.cose_gate_records.specs.declared.held.Held.{Held}
use Rattle.cose_gate_records.specs.declared.asker.Asker.{Asker}
use Rattle.cose_gate_records.specs.declared.accepted.Accepted.{Accepted}
use Rattle.cose_gate_records.specs.declared.text.Text.{Text}
use Rattle.cose_gate_records.specs.declared.text.Text.TheVariants.{Whole, Lost}

-- a question about this subject is held, with these covered bytes
abbrev pub IsHeld : Held → Subject → List ℕ → Type 0
IsHeld held subject covered = (held.front.items ≡ front_of subject) × (held.covered.items ≡ covered)

-- the lengths of the pieces that were fed
abbrev pub pieces_of : Held → List ℕ
pieces_of held = held.pieces.items

-- the records so far, also if out of memory for one of them
abbrev pub told_of : Text → List ℕ
told_of (Whole text) = text.items
told_of (Lost told) = told.items

abbrev pub told_by : Asker → List ℕ
told_by asker = told_of asker.text

-- whether the records are lost, since it was out of memory for one
abbrev pub was_lost : Text → Bool
was_lost (Whole text) = false
was_lost (Lost told) = true

abbrev pub is_lost : Asker → Bool
is_lost asker = was_lost asker.text

-- the keys that were accepted, as they were received
abbrev pub keys_of : Accepted → List (List ℕ)
keys_of accepted = map (λ key. key.now) accepted.keys.received.items
