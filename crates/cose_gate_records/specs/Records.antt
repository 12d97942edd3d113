-- The record that stands for a question.
use Rattle.std.specs.Prelude.{ℕ, List, [], ◌++◌, Option, None, Some, option_map, Bool}
use Rattle.std.specs.List.{list_any}
use Rattle.std.specs.Str.{bytes_eq}
use Rattle.ciborium_value.specs.Encoding.{enc}
use Rattle.coset_headers.specs.Fields.{HeaderFields, ProtectedFields}
use Rattle.coset_headers.specs.Written.{header_tree}
use Rattle.coset_recipients.specs.Fields.{RecipientsFields}
use Rattle.coset_recipients.specs.Written.{list_tree}
use Rattle.cose_gate_core.specs.Questions.{Question, Subject, number_of, or_nothing}
use Rattle.cose_gate_core.specs.Received.{received_bytes}
use Rattle.cose_gate_records.specs.Framing.{eight, framed, key_by}

-- the encoded map of a header, and the encoded array of recipients, which is there even if it is
-- empty
abbrev pub header_text : HeaderFields → List ℕ
header_text h = or_nothing (option_map enc (header_tree h))

abbrev pub recipients_text : RecipientsFields → List ℕ
recipients_text rs = or_nothing (option_map enc (list_tree rs))

-- the headers of a signer: nothing if the message has no signers of its own. One that has shows at
-- least an empty map.
abbrev pub signer_protected : Option (ProtectedFields × HeaderFields) → List ℕ
signer_protected None = []
signer_protected (Some s) = received_bytes s.0

abbrev pub signer_unprotected : Option (ProtectedFields × HeaderFields) → List ℕ
signer_unprotected None = []
signer_unprotected (Some s) = header_text s.1

-- what a question is about, as a record shows it: the message's kind, the protected headers as they
-- were received, the unprotected ones and the recipients encoded. The covered bytes hold neither of
-- these two, and a caller finds his key by them.
pub record Texts : Type 0 where
  pub number : ℕ
  pub protected : List ℕ
  pub unprotected : List ℕ
  pub signer_protected : List ℕ
  pub signer_unprotected : List ℕ
  pub recipients : List ℕ

abbrev pub texts_of : Subject → Texts
texts_of s = record {
  number = number_of s.kind;
  protected = received_bytes s.protected;
  unprotected = header_text s.unprotected;
  signer_protected = signer_protected s.signer;
  signer_unprotected = signer_unprotected s.signer;
  recipients = recipients_text s.recipients;
}

-- the front of a key
abbrev pub front_by : Texts → List ℕ
front_by t =
    eight t.number ++ (framed t.protected ++ (framed t.unprotected
    ++ (framed t.signer_protected ++ (framed t.signer_unprotected ++ framed t.recipients))))

abbrev pub front_of : Subject → List ℕ
front_of s = front_by (texts_of s)

-- the key of a question, and its record: the key after its length
abbrev pub key_of : Question → List ℕ
key_of q = key_by (front_of q.subject) q.covered q.signature

abbrev pub record_of : Question → List ℕ
record_of q = framed (key_of q)

-- whether the key of a question is one of these
abbrev pub is_among : List (List ℕ) → Question → Bool
is_among keys q = list_any (λ key. bytes_eq key (key_of q)) keys
