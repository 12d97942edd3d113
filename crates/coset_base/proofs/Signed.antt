-- Counter signatures in a list.
use Rattle.std.proofs.Common.{◌≡◌, List, [], ◌∷◌, ◌++◌, map, refl, ap, ◌∙◌}
use Rattle.std.proofs.lemmas.List.{map-append}
use Rattle.coset_headers.specs.Fields.{Plain, header, SignatureFields, signatures, signature_more}
use Rattle.coset_headers.specs.View.{signature_view, signatures_view}
use Rattle.coset_headers.specs.declared.header.CoseSignature.{CoseSignature}
use Rattle.coset_base.specs.Builders.{signed_too, also_signed}

signed_snoc : (ss : List SignatureFields) (s : SignatureFields) → signatures (ss ++ s ∷ []) ≡ signed_too s (signatures ss)
signed_snoc [] s = refl
signed_snoc (t ∷ ts) s = ap (signature_more t) (signed_snoc ts s)

pub signed_last : (p : Plain) (old new : List CoseSignature) (s : CoseSignature) → new ≡ old ++ s ∷ [] → header p (signatures_view new) ≡ also_signed (signature_view s) (header p (signatures_view old))
signed_last p old new s e =
    ap (header p) (ap signatures_view e ∙ ap signatures (map-append signature_view old (s ∷ [])) ∙ signed_snoc (map signature_view old) (signature_view s))
