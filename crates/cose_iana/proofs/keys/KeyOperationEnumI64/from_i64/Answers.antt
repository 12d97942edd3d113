use Rattle.cose_iana.specs.Keys.{key_operations}
use Rattle.cose_iana.proofs.Found.{entry, found}
use Rattle.cose_iana.proofs.keys.KeyOperationEnumI64.from_i64.Goals as goal

pub returns : goal.returns
unfolding key_operations
returns c = record { entry = entry key_operations _ _ c.ranges.i c.entry_with.ensures; found = found key_operations _ _ c.ranges.i c.entry_with.ensures }
