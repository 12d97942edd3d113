use Rattle.cose_iana.specs.Tags.{cbor_tags}
use Rattle.cose_iana.proofs.Found.{entry, found}
use Rattle.cose_iana.proofs.tags.CborTagEnumI64.from_i64.Goals as goal

pub returns : goal.returns
unfolding cbor_tags
returns c = record { entry = entry cbor_tags _ _ c.ranges.i c.entry_with.ensures; found = found cbor_tags _ _ c.ranges.i c.entry_with.ensures }
