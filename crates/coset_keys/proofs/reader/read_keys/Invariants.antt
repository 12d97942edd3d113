use Rattle.std.proofs.Common.{◌≡◌, List, ◌++◌, map}
use Rattle.ciborium_value.specs.View.{views}
use Rattle.ciborium_value.specs.declared.value.Value.{Value}
use Rattle.coset_keys.specs.Keys.{HaveKeys}
use Rattle.coset_keys.specs.View.{key_view}
use Rattle.coset_keys.proofs.reader.read_keys.Given as goal

abbrev pub invariant-items : goal.invariant-items
invariant-items l = record {
  front : (after : List Value) × (l.fn.items.items ≡ l.yielded ++ after);
  done : HaveKeys (views l.yielded) (map key_view l.keys.items);
}
