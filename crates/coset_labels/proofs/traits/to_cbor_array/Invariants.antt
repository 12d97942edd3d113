use Rattle.std.proofs.Common.{◌≡◌, List, ◌++◌, map, Some}
use Rattle.ciborium_value.specs.View.{view}
use Rattle.coset_labels.specs.Arrays.{all_written}
use Rattle.coset_labels.proofs.traits.to_cbor_array.Given as goal

abbrev pub invariant-items : goal.invariant-items
invariant-items g l = record {
  front : (after : List _) × (l.fn.items.items ≡ l.yielded ++ after);
  done : all_written g.T.AsCborValue.written (map g.T.AsCborValue.fields l.yielded) ≡ Some (map view l.values.items);
}
