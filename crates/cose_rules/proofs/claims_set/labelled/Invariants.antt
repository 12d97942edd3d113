use Rattle.std.proofs.Common.{◌≡◌, List, ◌++◌, Some, map}
use Rattle.ciborium_value.specs.View.{view_pairs}
use Rattle.ciborium_value.specs.declared.value.Value.{Value}
use Rattle.coset_headers.specs.View.{entry_view}
use Rattle.coset_labels.specs.Entries.{entries}
use Rattle.coset_labels.specs.Labels.{label_of}
use Rattle.cose_rules.proofs.claims_set.labelled.Given as goal

abbrev pub invariant-entries : goal.invariant-entries
invariant-entries l = record {
  front : (after : List (Value × Value)) × (l.fn.pairs.items ≡ l.yielded ++ after);
  read : entries label_of (view_pairs l.yielded) ≡ Some (map entry_view l.claims.items);
}
