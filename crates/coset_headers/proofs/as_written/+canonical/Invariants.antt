use Rattle.std.proofs.Common.{◌≡◌, drop}
use Rattle.ciborium_value.specs.View.{views, view_pairs}
use Rattle.coset_headers.specs.AsWritten.{are_canonical_entries, are_canonical_signatures}
use Rattle.coset_headers.proofs.as_written.+canonical.Given as goal

-- the result for the whole list is the result for what is left of it
abbrev pub invariant-are_canonical_entries-entries : goal.invariant-are_canonical_entries-entries
invariant-are_canonical_entries-entries l = are_canonical_entries 1 (view_pairs l.entries) ≡ are_canonical_entries l.last (view_pairs (drop l.entry-index l.entries))

abbrev pub invariant-are_canonical_signatures-items : goal.invariant-are_canonical_signatures-items
invariant-are_canonical_signatures-items l = are_canonical_signatures (views l.items) ≡ are_canonical_signatures (views (drop l.item-index l.items))
