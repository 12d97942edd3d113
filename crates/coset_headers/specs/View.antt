-- The fields that headers and signatures of the code have.
use Rattle.std.specs.Prelude.{List, map, option_map}
use Rattle.cose_iana.specs.Algorithms.{algorithm_number}
use Rattle.cose_iana.specs.Formats.{coap_content_formats}
use Rattle.cose_iana.specs.Headers.{header_parameters}
use Rattle.ciborium_value.specs.Tree.{Tree}
use Rattle.ciborium_value.specs.View.{view}
use Rattle.ciborium_value.specs.declared.value.Value.{Value}
use Rattle.coset_labels.specs.Fields.{LabelFields}
use Rattle.coset_labels.specs.View.{label_view, registered_view, named_view}
use Rattle.coset_labels.specs.declared.label.Label.{Label}
use Rattle.coset_headers.specs.Fields.{Plain, HeaderFields, header, ProtectedFields, protected, SignatureFields, signature, Signatures, signatures}
use Rattle.coset_headers.specs.declared.header.Header.{Header, fold-Header}
use Rattle.coset_headers.specs.declared.header.ProtectedHeader.{ProtectedHeader, fold-ProtectedHeader}
use Rattle.coset_headers.specs.declared.header.CoseSignature.{CoseSignature, fold-CoseSignature}
use Rattle.coset_headers.specs.declared.header.CoseSignature.TheOpen.{Header-F, ProtectedHeader-F, CoseSignature-F}

abbrev pub entry_view : Label × Value → LabelFields × Tree
entry_view e = (label_view e.0, view e.1)

abbrev pub signature_step : CoseSignature-F SignatureFields HeaderFields ProtectedFields → SignatureFields
signature_step s = signature s.protected s.unprotected s.signature.items

-- the fields of a header but for its counter signatures
abbrev pub plain_parts : {S H P : Type 0} → Header-F S H P → Plain
plain_parts h = record {
  alg = option_map (named_view algorithm_number) h.alg;
  crit = map (named_view header_parameters.number) h.crit.items;
  content_type = option_map (registered_view coap_content_formats.number) h.content_type;
  key_id = h.key_id.items;
  iv = h.iv.items;
  partial_iv = h.partial_iv.items;
  rest = map entry_view h.rest.items;
}

abbrev pub header_step : Header-F SignatureFields HeaderFields ProtectedFields → HeaderFields
header_step h = header (plain_parts h) (signatures h.counter_signatures.items)

abbrev pub protected_step : ProtectedHeader-F SignatureFields HeaderFields ProtectedFields → ProtectedFields
protected_step p = protected (option_map (λ v. v.items) p.original_data) p.header

abbrev pub header_view : Header → HeaderFields
header_view = fold-Header SignatureFields HeaderFields ProtectedFields signature_step header_step protected_step

abbrev pub protected_view : ProtectedHeader → ProtectedFields
protected_view = fold-ProtectedHeader SignatureFields HeaderFields ProtectedFields signature_step header_step protected_step

abbrev pub signature_view : CoseSignature → SignatureFields
signature_view = fold-CoseSignature SignatureFields HeaderFields ProtectedFields signature_step header_step protected_step

abbrev pub signatures_view : List CoseSignature → Signatures
signatures_view ss = signatures (map signature_view ss)
