use Rattle.std.proofs.Common.{◌≡◌, map}
use Rattle.cose_iana.specs.Keys.{key_operations}
use Rattle.ciborium_value.specs.View.{view}
use Rattle.coset_labels.specs.Labels.{named_tree}
use Rattle.coset_labels.specs.View.{registered_view}
use Rattle.coset_keys.proofs.writer.write_operations.Given as goal

abbrev pub invariant-operations : goal.invariant-operations
invariant-operations l = map view l.items.items ≡ map named_tree (map (registered_view key_operations.number) l.yielded)
