use Rattle.cose_iana.specs.Keys.{key_types}
use Rattle.cose_iana.proofs.Found.{entry, found}
use Rattle.cose_iana.proofs.keys.KeyTypeEnumI64.from_i64.Goals as goal

pub returns : goal.returns
unfolding key_types
returns c = record { entry = entry key_types _ _ c.ranges.i c.entry_with.ensures; found = found key_types _ _ c.ranges.i c.entry_with.ensures }
