-- A signature that is copied before the counter signatures in its headers are.
use Rattle.std.specs.Prelude.{◌≡◌, List, [], ◌∷◌, ◌++◌}
use Rattle.coset_headers.specs.Fields.{HeaderFields, header, protected, SignatureFields, signature, no_signatures}
use Rattle.coset_headers.specs.View.{signature_view}
use Rattle.coset_headers.specs.declared.header.CoseSignature.{CoseSignature}

abbrev pub unsigned_header : HeaderFields → HeaderFields
unsigned_header (header p ss) = header p no_signatures

-- the same signature, with no counter signatures in its headers
abbrev pub unsigned : SignatureFields → SignatureFields
unsigned (signature (protected o h) g c) = signature (protected o (unsigned_header h)) (unsigned_header g) c

-- such a copy is one more, at the end
abbrev pub PushesPlain : CoseSignature → List CoseSignature → List CoseSignature → Type 0
PushesPlain s old new = (copy : CoseSignature) × (new ≡ old ++ copy ∷ []) × (signature_view copy ≡ unsigned (signature_view s))
