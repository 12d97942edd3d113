-- What is lent to a judge, by its values.
use Rattle.std.specs.Prelude.{ℕ, List, ◌++◌, Option, Some, None}
use denote.Bor.{Bor}
use Rattle.coset_headers.specs.Fields.{HeaderFields, ProtectedFields}
use Rattle.coset_headers.specs.View.{header_view, protected_view}
use Rattle.coset_headers.specs.declared.header.Header.{Header}
use Rattle.coset_headers.specs.declared.header.ProtectedHeader.{ProtectedHeader}
use Rattle.coset_maced.specs.RecipientView.{recipients_view}
use Rattle.cose_gate_core.specs.declared.about.About.{About}
use Rattle.coset_base.specs.Structure.{behind_prefix}
use Rattle.cose_gate_core.specs.Questions.{Subject, Question}
use Rattle.cose_gate_core.specs.Received.{received_bytes}

abbrev pub signer_of : Option (Bor ProtectedHeader × Bor Header)
    → Option (ProtectedFields × HeaderFields)
signer_of None = None
signer_of (Some s) = Some (protected_view s.0.now, header_view s.1.now)

abbrev pub subject_of : About → Subject
subject_of a = record {
  kind = a.kind;
  protected = protected_view a.protected.now;
  unprotected = header_view a.unprotected.now;
  signer = signer_of a.signer;
  recipients = recipients_view a.recipients.now;
}

-- the question over a structure without a signer, which begins with the prefix and shows the
-- received bytes
abbrev pub asked_alone : About → List ℕ → List ℕ → List ℕ → List ℕ → Question
asked_alone a prefix aad payload signature = record {
  subject = subject_of a;
  covered = prefix
      ++ behind_prefix (received_bytes (protected_view a.protected.now)) None aad payload;
  signature = signature;
}
