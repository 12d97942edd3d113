-- The fields that messages of the code have.
use Rattle.std.specs.Prelude.{map, option_map}
use Rattle.coset_headers.specs.View.{header_view, protected_view, signature_view}
use Rattle.coset_signed.specs.Fields.{Sign1Fields, SignFields}
use Rattle.coset_signed.specs.declared.sign.CoseSign.{CoseSign}
use Rattle.coset_signed.specs.declared.sign1.CoseSign1.{CoseSign1}

abbrev pub sign1_view : CoseSign1 → Sign1Fields
sign1_view m = record {
  protected = protected_view m.protected;
  unprotected = header_view m.unprotected;
  payload = option_map (λ v. v.items) m.payload;
  signature = m.signature.items;
}

abbrev pub sign_view : CoseSign → SignFields
sign_view m = record {
  protected = protected_view m.protected;
  unprotected = header_view m.unprotected;
  payload = option_map (λ v. v.items) m.payload;
  signatures = map signature_view m.signatures.items;
}
