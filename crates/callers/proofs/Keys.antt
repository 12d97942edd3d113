-- The key id of a header that was lent.
use Rattle.std.proofs.Common.{◌≡◌, sym, ap, ◌∙◌}
use Rattle.cose_gate.specs.Fields.{HeaderFields, ProtectedFields, SignatureFields}
use Rattle.cose_gate.specs.Header.{Header, out-Header, roll-out-Header, fold-roll-Header}
use Rattle.cose_gate.specs.ProtectedHeader.{ProtectedHeader, out-ProtectedHeader, roll-out-ProtectedHeader, fold-roll-ProtectedHeader}
use Rattle.cose_gate.specs.HeaderView.{header_view, protected_view, signature_step, header_step, protected_step}
use Rattle.callers.specs.Judging.{header_key_id, protected_key_id}

pub key_id_is : (h : Header) → header_key_id (header_view h) ≡ (out-Header h).key_id.items
key_id_is h = ap header_key_id (ap header_view (sym (roll-out-Header h)) ∙ fold-roll-Header SignatureFields HeaderFields ProtectedFields signature_step header_step protected_step (out-Header h))

pub protected_id_is : (p : ProtectedHeader) → protected_key_id (protected_view p) ≡ header_key_id (header_view (out-ProtectedHeader p).header)
protected_id_is p = ap protected_key_id (ap protected_view (sym (roll-out-ProtectedHeader p))
    ∙ fold-roll-ProtectedHeader SignatureFields HeaderFields ProtectedFields signature_step header_step protected_step (out-ProtectedHeader p))
