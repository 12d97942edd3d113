use Rattle.std.proofs.Common.{◌≡◌, List, ◌++◌, Some}
use Rattle.ciborium_value.specs.Tree.{Tree}
use Rattle.ciborium_value.specs.View.{view_pairs}
use Rattle.ciborium_value.specs.declared.value.Value.{Value}
use Rattle.coset_labels.specs.Fields.{Named}
use Rattle.coset_claims.specs.Claims.{entries}
use Rattle.coset_claims.specs.Steps.{KnownIn}
use Rattle.coset_claims.proofs.reader.read_entries.Given as goal

abbrev pub invariant-entries : goal.invariant-entries
invariant-entries l = record {
  front : (after : List (Value × Value)) × (l.fn.entries.items ≡ l.yielded ++ after);
  known : (es : List (Named × Tree)) × (entries (view_pairs l.yielded) ≡ Some es) × KnownIn es l.seen l.claims;
}
