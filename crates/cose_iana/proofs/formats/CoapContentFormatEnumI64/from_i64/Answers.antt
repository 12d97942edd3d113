use Rattle.cose_iana.specs.Formats.{coap_content_formats}
use Rattle.cose_iana.proofs.Found.{entry, found}
use Rattle.cose_iana.proofs.formats.CoapContentFormatEnumI64.from_i64.Goals as goal

pub returns : goal.returns
unfolding coap_content_formats
returns c = record { entry = entry coap_content_formats _ _ c.ranges.i c.entry_with.ensures; found = found coap_content_formats _ _ c.ranges.i c.entry_with.ensures }
