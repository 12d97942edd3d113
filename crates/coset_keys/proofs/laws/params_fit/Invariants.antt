use Rattle.std.proofs.Common.{map, take}
use Rattle.ciborium_value.specs.Encoding.{FitPairs}
use Rattle.ciborium_value.specs.View.{pairs}
use Rattle.coset_headers.specs.View.{entry_view}
use Rattle.coset_headers.specs.Written.{entry_tree}
use Rattle.coset_keys.proofs.laws.params_fit.Given as goal

abbrev pub invariant-entries : goal.invariant-entries
invariant-entries l = FitPairs (pairs (map entry_tree (map entry_view (take l.entry-index l.params))))
