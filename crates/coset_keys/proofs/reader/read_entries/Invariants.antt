use Rattle.std.proofs.Common.{◌≡◌, List, ◌++◌, Some}
use Rattle.ciborium_value.specs.Tree.{Tree}
use Rattle.ciborium_value.specs.View.{view_pairs}
use Rattle.ciborium_value.specs.declared.value.Value.{Value}
use Rattle.coset_labels.specs.Fields.{LabelFields}
use Rattle.coset_headers.specs.Headers.{entries}
use Rattle.coset_keys.specs.Parts.{KnownIn}
use Rattle.coset_keys.proofs.reader.read_entries.Given as goal

abbrev pub invariant-entries : goal.invariant-entries
invariant-entries l = record {
  front : (after : List (Value × Value)) × (l.fn.entries.items ≡ l.yielded ++ after);
  known : (es : List (LabelFields × Tree)) × (entries (view_pairs l.yielded) ≡ Some es) × KnownIn es l.seen l.key;
}
