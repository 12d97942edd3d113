use Rattle.std.proofs.Common.{map, take}
use Rattle.coset_headers.specs.Headers.{Distinct}
use Rattle.coset_headers.specs.Parts.{SeesLabels}
use Rattle.coset_headers.specs.View.{entry_view}
use Rattle.coset_headers.proofs.entries.repeats.Given as goal

abbrev pub invariant-entries : goal.invariant-entries
invariant-entries l = record {
  sees : SeesLabels l.seen (map entry_view (take l.entry-index l.entries));
  distinct : Distinct (map entry_view (take l.entry-index l.entries));
}
