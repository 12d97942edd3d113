-- The two kinds of message that are checked while their payload passes: those with one signature or
-- one tag, and nobody else to ask about (RFC 9052, sections 2, 4.2 and 6.2).
use Rattle.std.specs.Prelude.{ℕ, List, Option, Some}
use Rattle.coset_headers.specs.Fields.{HeaderFields, ProtectedFields, protected}
use Rattle.coset_base.specs.Contexts.{signature_text, mac_text}
use Rattle.coset_base.specs.declared.context.SignatureContext.TheVariants.{CoseSign1}
use Rattle.coset_base.specs.declared.context.MacContext.TheVariants.{CoseMac0}
use Rattle.cose_gate_core.specs.Questions.{MessageFields, sign1, mac0, number_of}
use Rattle.cose_gate_core.specs.declared.about.MessageKind.{MessageKind}
use Rattle.cose_gate_core.specs.declared.about.MessageKind.TheVariants as kind
use Rattle.cose_gate.specs.declared.form.Form.{Form}
use Rattle.cose_gate.specs.declared.form.Form.TheVariants as form

abbrev pub kind_of : Form → MessageKind
kind_of form.Sign1 = kind.Sign1
kind_of form.Mac0 = kind.Mac0

abbrev pub tag_number : Form → ℕ
tag_number f = number_of (kind_of f)

-- the text that is first in its structure
abbrev pub context_of : Form → List ℕ
context_of form.Sign1 = signature_text CoseSign1
context_of form.Mac0 = mac_text CoseMac0

-- the message of these headers, this payload, and this signature or tag
abbrev pub message_of : Form → ProtectedFields → HeaderFields → List ℕ → List ℕ → MessageFields
message_of form.Sign1 p u payload s =
    sign1 (record { protected = p; unprotected = u; payload = Some payload; signature = s })
message_of form.Mac0 p u payload s =
    mac0 (record { protected = p; unprotected = u; payload = Some payload; tag = s })

-- the bytes of a protected header that was received
abbrev pub received_of : ProtectedFields → Option (List ℕ)
received_of (protected o h) = o
