use Rattle.std.proofs.Common.{refl, ap, map}
use Rattle.cose_iana.specs.Keys.{key_operations}
use Rattle.coset_labels.specs.View.{registered_view}
use Rattle.coset_headers.specs.View.{entry_view}
use Rattle.coset_keys.proofs.Numbers.{reserved_is}
use Rattle.coset_keys.proofs.Unique.{fields_same}
use Rattle.coset_keys.proofs.key.CoseKey.new.Goals as goal

pub returns : goal.returns
returns c = fields_same _ _ (reserved_is _ c.default.ensures) c.new.ensures.items refl (ap (map (registered_view key_operations.number)) c.new-2.ensures.empty) c.new-3.ensures.items (ap (map entry_view) c.new-4.ensures.items)
