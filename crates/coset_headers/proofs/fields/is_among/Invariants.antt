use Rattle.std.proofs.Common.{map, take}
use Rattle.coset_labels.specs.View.{label_view}
use Rattle.coset_headers.specs.Headers.{IsIn}
use Rattle.coset_headers.specs.View.{entry_view}
use Rattle.coset_headers.proofs.fields.is_among.Given as goal

abbrev pub invariant-entries : goal.invariant-entries
invariant-entries l = IsIn (label_view l.label) (map entry_view (take l.entry-index l.entries)) → ⊥
