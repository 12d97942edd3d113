use Rattle.std.proofs.Common.{◌≡◌, List, ◌++◌, map}
use Rattle.ciborium_value.specs.View.{view_pair}
use Rattle.ciborium_value.specs.declared.value.Value.{Value}
use Rattle.coset_labels.specs.declared.label.Label.{Label}
use Rattle.coset_headers.specs.View.{entry_view}
use Rattle.coset_headers.specs.Written.{entry_tree}
use Rattle.coset_headers.proofs.entries.push_rest.Given as goal

abbrev pub invariant-rest : goal.invariant-rest
invariant-rest l = record {
  front : (after : List (Label × Value)) × (l.fn.rest.items ≡ l.yielded ++ after);
  done : map view_pair l.entries.items ≡ map view_pair l.fn.entries.items ++ map entry_tree (map entry_view l.yielded);
}
