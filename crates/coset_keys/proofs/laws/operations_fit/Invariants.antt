use Rattle.std.proofs.Common.{map}
use Rattle.std.specs.Map.Iter.{deref}
use Rattle.cose_iana.specs.Keys.{key_operations}
use Rattle.coset_labels.specs.View.{registered_view}
use Rattle.coset_keys.specs.Fitting.{NamesFit}
use Rattle.coset_keys.proofs.laws.operations_fit.Given as goal

abbrev pub invariant-operations : goal.invariant-operations
invariant-operations l = NamesFit (map (registered_view key_operations.number) (map deref l.yielded))
