-- The fields that authenticated messages of the code have.
use Rattle.std.specs.Prelude.{option_map}
use Rattle.coset_headers.specs.View.{header_view, protected_view}
use Rattle.coset_recipients.specs.View.{recipients_view}
use Rattle.coset_maced.specs.Fields.{Mac0Fields, MacFields}
use Rattle.coset_maced.specs.declared.mac0.CoseMac0.{CoseMac0}
use Rattle.coset_maced.specs.declared.mac.CoseMac.{CoseMac}

abbrev pub mac0_view : CoseMac0 → Mac0Fields
mac0_view m = record {
  protected = protected_view m.protected;
  unprotected = header_view m.unprotected;
  payload = option_map (λ v. v.items) m.payload;
  tag = m.tag.items;
}

abbrev pub mac_view : CoseMac → MacFields
mac_view m = record {
  protected = protected_view m.protected;
  unprotected = header_view m.unprotected;
  payload = option_map (λ v. v.items) m.payload;
  tag = m.tag.items;
  recipients = recipients_view m.recipients.items;
}
