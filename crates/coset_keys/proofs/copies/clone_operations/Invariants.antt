use Rattle.std.proofs.Common.{◌≡◌, map}
use Rattle.std.specs.Map.Iter.{deref}
use Rattle.cose_iana.specs.Keys.{key_operations}
use Rattle.coset_labels.specs.View.{registered_view}
use Rattle.coset_keys.proofs.copies.clone_operations.Given as goal

abbrev pub invariant-operations : goal.invariant-operations
invariant-operations l = map (registered_view key_operations.number) l.copies.keys ≡ map (registered_view key_operations.number) (map deref l.yielded)
