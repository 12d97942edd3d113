-- The lines of text that `cose-ask --lines` and `cose-ask --fields` write.
use Rattle.std.specs.Prelude.{ℕ, List, [], ◌∷◌, ◌++◌, flat_map, codes, Bool, if◌then◌else◌}
use Rattle.cose_gate_core.specs.Questions.{Question, Subject}
use Rattle.cose_gate_core.specs.declared.about.MessageKind.{MessageKind}
use Rattle.cose_gate_core.specs.declared.about.MessageKind.TheVariants as kind
use Rattle.cose_gate_records.specs.Records.{texts_of, record_of}
use Rattle.cose_gate_command.specs.Fields.{key_fields}
use Rattle.cose_gate_command.specs.Hex.{hex_field}
use Rattle.cose_gate_command.specs.declared.options.Form.{Form}
use Rattle.cose_gate_command.specs.declared.options.Form.TheVariants as form

-- the name of a kind of message
abbrev pub name_of : MessageKind → List ℕ
name_of kind.Sign1 = codes "Sign1"
name_of kind.Mac0 = codes "Mac0"
name_of kind.Sign = codes "Sign"
name_of kind.Mac = codes "Mac"

-- a space, and a field in hex
abbrev pub next_field : List ℕ → List ℕ
next_field bytes = codes " " ++ hex_field bytes

-- a line: the name of the kind, these fields, these texts in hex, and a line feed
abbrev pub line_by : MessageKind → List ℕ → List (List ℕ) → List ℕ
line_by kind fields texts = name_of kind ++ (fields ++ (flat_map next_field texts ++ codes "\n"))

-- the seven texts of a question
abbrev pub texts_in : Question → List (List ℕ)
texts_in q =
    let about = texts_of q.subject in
    about.protected ∷ about.unprotected ∷ about.signer_protected ∷ about.signer_unprotected
    ∷ about.recipients ∷ q.covered ∷ q.signature ∷ []

-- the line of a question with these fields: its kind, the fields, its seven texts and its record
abbrev pub full_line : List ℕ → Question → List ℕ
full_line fields q = line_by q.subject.kind fields (texts_in q ++ record_of q ∷ [])

-- the line of a question, and the same with what its headers say of its key
abbrev pub question_line : Question → List ℕ
question_line q = full_line [] q

abbrev pub fielded_line : Question → List ℕ
fielded_line q = full_line (key_fields q.subject) q

-- what is written of a question
abbrev pub told_as : Form → Question → List ℕ
told_as form.Records q = record_of q
told_as form.Lines q = question_line q
told_as form.Fields q = fielded_line q

-- what the line of a question about this subject says of its key
abbrev pub fields_in : Form → Subject → List ℕ
fields_in form.Records s = []
fields_in form.Lines s = []
fields_in form.Fields s = key_fields s

-- what is told of a question: what its line says of its key, and its record
abbrev pub parts_of : Form → Question → List ℕ × List ℕ
parts_of form q = (fields_in form q.subject, record_of q)

-- --fields writes lines too
abbrev pub form_of : Bool → Bool → Form
form_of lines fields = if fields then form.Fields else (if lines then form.Lines else form.Records)
