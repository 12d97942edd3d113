-- What a judge is asked about a message (RFC 9052, sections 4.4 and 6.3), as values that hold no
-- memory.
use Rattle.std.specs.Prelude.{ℕ, List, [], ◌∷◌, Option, Some, None, option_map, option_and_then}
use Rattle.ciborium_value.specs.Tree.{Tree, tag}
use Rattle.ciborium_value.specs.Encoding.{enc}
use Rattle.coset_headers.specs.Fields.{HeaderFields, ProtectedFields, SignatureFields, signature}
use Rattle.coset_signed.specs.Fields.{Sign1Fields, SignFields, signature_bytes}
use Rattle.coset_signed.specs.Structure.{sign1_covered, sign_covered}
use Rattle.coset_signed.specs.Written.{sign1_tree, sign_tree}
use Rattle.coset_maced.specs.Fields.{Mac0Fields, MacFields}
use Rattle.coset_maced.specs.Structure.{mac0_covered, mac_covered}
use Rattle.coset_maced.specs.Written.{mac0_tree, mac_tree}
use Rattle.coset_maced.specs.RecipientFields.{RecipientsFields, no_recipients}
use Rattle.cose_gate_core.specs.declared.about.MessageKind.{MessageKind}
use Rattle.cose_gate_core.specs.declared.about.MessageKind.TheVariants as kind

-- what a question is about: the message's headers, the signer's if there is a signer, and the
-- recipients
pub record Subject : Type 0 where
  pub kind : MessageKind
  pub protected : ProtectedFields
  pub unprotected : HeaderFields
  pub signer : Option (ProtectedFields × HeaderFields)
  pub recipients : RecipientsFields

-- a question: what it is about, the bytes that are covered, and the signature or tag over them
pub record Question : Type 0 where
  pub subject : Subject
  pub covered : List ℕ
  pub signature : List ℕ

-- a message of one of the kinds that are judged
pub data MessageFields : Type 0 where
  sign1 : Sign1Fields → MessageFields
  mac0 : Mac0Fields → MessageFields
  sign : SignFields → MessageFields
  mac : MacFields → MessageFields

-- the tag of a kind of message (RFC 9052, section 2)
abbrev pub number_of : MessageKind → ℕ
number_of kind.Sign1 = 18
number_of kind.Mac0 = 17
number_of kind.Sign = 98
number_of kind.Mac = 97

-- the kind of a message, and its tag
abbrev pub kind_of : MessageFields → MessageKind
kind_of (sign1 m) = kind.Sign1
kind_of (mac0 m) = kind.Mac0
kind_of (sign m) = kind.Sign
kind_of (mac m) = kind.Mac

abbrev pub tag_of : MessageFields → ℕ
tag_of m = number_of (kind_of m)

abbrev pub payload_of : MessageFields → Option (List ℕ)
payload_of (sign1 m) = m.payload
payload_of (mac0 m) = m.payload
payload_of (sign m) = m.payload
payload_of (mac m) = m.payload

-- a message with neither signers of its own nor recipients
abbrev pub alone : MessageKind → ProtectedFields → HeaderFields → Subject
alone k p u = record {
  kind = k;
  protected = p;
  unprotected = u;
  signer = None;
  recipients = no_recipients;
}

abbrev pub mac_subject : MacFields → Subject
mac_subject m = record {
  kind = kind.Mac;
  protected = m.protected;
  unprotected = m.unprotected;
  signer = None;
  recipients = m.recipients;
}

-- the headers of a signature
abbrev pub signer_headers : SignatureFields → ProtectedFields × HeaderFields
signer_headers (signature p u c) = (p, u)

-- about one signature of a message: the signer's headers are the signature's own
abbrev pub sign_subject : SignFields → SignatureFields → Subject
sign_subject m s = record {
  kind = kind.Sign;
  protected = m.protected;
  unprotected = m.unprotected;
  signer = Some (signer_headers s);
  recipients = no_recipients;
}

-- the questions over the covered bytes
abbrev pub sign1_question : Sign1Fields → List ℕ → Question
sign1_question m covered = record {
  subject = alone kind.Sign1 m.protected m.unprotected;
  covered = covered;
  signature = m.signature;
}

abbrev pub mac0_question : Mac0Fields → List ℕ → Question
mac0_question m covered = record {
  subject = alone kind.Mac0 m.protected m.unprotected;
  covered = covered;
  signature = m.tag;
}

abbrev pub sign_question : SignFields → SignatureFields → List ℕ → Question
sign_question m s covered = record {
  subject = sign_subject m s;
  covered = covered;
  signature = signature_bytes s;
}

abbrev pub mac_question : MacFields → List ℕ → Question
mac_question m covered = record { subject = mac_subject m; covered = covered; signature = m.tag }

-- the questions about the signatures of a COSE_Sign, in order; none if a structure can't be written
abbrev pub sign_questions : SignFields → List ℕ → List SignatureFields → Option (List Question)
sign_questions m aad [] = Some []
sign_questions m aad (s ∷ ss) =
    option_and_then (λ covered. option_map (λ qs. sign_question m s covered ∷ qs)
    (sign_questions m aad ss))
    (sign_covered m s aad)

-- the questions about a message, in order, each over the structure with the protected bytes as
-- received: one about the signature of a COSE_Sign1, the tag of a COSE_Mac0 or COSE_Mac, and each
-- signature of a COSE_Sign; none if a structure can't be written
abbrev pub all_questions : MessageFields → List ℕ → Option (List Question)
all_questions (sign1 m) aad =
    option_map (λ covered. sign1_question m covered ∷ []) (sign1_covered m aad)
all_questions (mac0 m) aad =
    option_map (λ covered. mac0_question m covered ∷ []) (mac0_covered m aad)
all_questions (sign m) aad = sign_questions m aad m.signatures
all_questions (mac m) aad = option_map (λ covered. mac_question m covered ∷ []) (mac_covered m aad)

-- the value that a message is written as, and with its tag; none if a header of it can't be written
abbrev pub message_tree : MessageFields → Option Tree
message_tree (sign1 m) = sign1_tree m
message_tree (mac0 m) = mac0_tree m
message_tree (sign m) = sign_tree m
message_tree (mac m) = mac_tree m

abbrev pub tagged_tree : MessageFields → Option Tree
tagged_tree m = option_map (λ t. tag (tag_of m) t) (message_tree m)

abbrev pub or_nothing : {A : Type 0} → Option (List A) → List A
or_nothing None = []
or_nothing (Some xs) = xs

-- the question about one signature of a COSE_Sign that was read
abbrev pub one_question : SignFields → List ℕ → SignatureFields → Question
one_question m aad s = sign_question m s (or_nothing (sign_covered m s aad))

-- the questions about a message that was read, and its canonical encoding: such a message can
-- always be written, by the law `judged_can_be_written`
abbrev pub questions : MessageFields → List ℕ → List Question
questions m aad = or_nothing (all_questions m aad)

abbrev pub message_text : MessageFields → List ℕ
message_text m = or_nothing (option_map enc (tagged_tree m))
