-- Questions that are read from their records.
use Rattle.std.specs.Prelude.{ℕ, List, [], ◌∷◌, ◌++◌, flat_map}
use Rattle.cose_gate_core.specs.Questions.{number_of}
use Rattle.cose_gate_core.specs.declared.about.MessageKind.{MessageKind}
use Rattle.cose_gate_records.specs.Framing.{eight, framed}
use Rattle.cose_gate_command.specs.declared.question.Question.{Question as ReadQuestion}

-- the key of a question of this kind and with these texts: the tag, and each text after its length
abbrev pub key_with : MessageKind → List (List ℕ) → List ℕ
key_with kind texts = eight (number_of kind) ++ flat_map framed texts

-- the seven texts of a question that was read
abbrev pub texts_read : ReadQuestion → List (List ℕ)
texts_read q =
    q.protected.now ∷ q.unprotected.now ∷ q.signer_protected.now ∷ q.signer_unprotected.now
    ∷ q.recipients.now ∷ q.covered.now ∷ q.signature.now ∷ []
