use Rattle.std.proofs.Common.{◌≡◌, List, ◌++◌, map}
use Rattle.cose_iana.specs.Keys.{key_operations}
use Rattle.ciborium_value.specs.View.{views}
use Rattle.ciborium_value.specs.declared.value.Value.{Value}
use Rattle.coset_labels.specs.View.{registered_view}
use Rattle.coset_keys.proofs.Steps.{Listed}
use Rattle.coset_keys.proofs.operations.collect_operations.Given as goal

abbrev pub invariant-items : goal.invariant-items
invariant-items l = record {
  front : (after : List Value) × (l.fn.items.items ≡ l.yielded ++ after);
  done : Listed (views l.yielded) (map (registered_view key_operations.number) l.operations.keys);
}
