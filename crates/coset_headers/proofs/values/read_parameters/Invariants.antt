use Rattle.std.proofs.Common.{◌≡◌, List, ◌++◌, map, Some}
use Rattle.cose_iana.specs.Headers.{header_parameters}
use Rattle.ciborium_value.specs.View.{views}
use Rattle.ciborium_value.specs.declared.value.Value.{Value}
use Rattle.coset_labels.specs.View.{named_view}
use Rattle.coset_headers.specs.Headers.{parameters_of}
use Rattle.coset_headers.proofs.values.read_parameters.Given as goal

abbrev pub invariant-names : goal.invariant-names
invariant-names l = record {
  front : (after : List Value) × (l.fn.items.items ≡ l.yielded ++ after);
  done : parameters_of (views l.yielded) ≡ Some (map (named_view header_parameters.number) l.names.items);
}
