use Rattle.std.proofs.Common.{◌≡◌, map, take, None}
use Rattle.coset_labels.specs.View.{label_view}
use Rattle.coset_headers.specs.View.{entry_view}
use Rattle.coset_keys.specs.Points.{first_at}
use Rattle.coset_keys.proofs.sec1.first_value.Given as goal

abbrev pub invariant-entries : goal.invariant-entries
invariant-entries l = first_at (label_view l.label) (map entry_view (take l.entry-index l.params)) ≡ None
