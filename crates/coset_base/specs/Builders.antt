-- What builders have so far.
use Rattle.std.specs.Prelude.{map, option_map}
use Rattle.cose_iana.specs.Algorithms.{algorithm_number}
use Rattle.cose_iana.specs.Formats.{coap_content_formats}
use Rattle.cose_iana.specs.Headers.{header_parameters}
use Rattle.coset_labels.specs.View.{registered_view, named_view}
use Rattle.coset_headers.specs.Fields.{Plain, HeaderFields, header, SignatureFields, signature, Signatures, no_signatures, signature_more}
use Rattle.coset_headers.specs.View.{header_view, protected_view, entry_view, signatures_view}
use Rattle.coset_base.specs.declared.header_builder.HeaderBuilder.{HeaderBuilder}
use Rattle.coset_base.specs.declared.signature_builder.CoseSignatureBuilder.{CoseSignatureBuilder}

abbrev pub header_so_far : HeaderBuilder → HeaderFields
header_so_far b = header_view b.header

abbrev pub signature_so_far : CoseSignatureBuilder → SignatureFields
signature_so_far b = signature (protected_view b.protected) (header_view b.unprotected) b.signature.items

-- the header with other plain fields
abbrev pub given : (Plain → Plain) → HeaderFields → HeaderFields
given f (header p ss) = header (f p) ss

abbrev pub signed_too : SignatureFields → Signatures → Signatures
signed_too s no_signatures = signature_more s no_signatures
signed_too s (signature_more t ts) = signature_more t (signed_too s ts)

-- the header with one more counter signature
abbrev pub also_signed : SignatureFields → HeaderFields → HeaderFields
also_signed s (header p ss) = header p (signed_too s ss)
