use Rattle.std.proofs.Common.{◌≡◌, ◌-◌, ◌^◌, ℕ, None, []}
use Rattle.ciborium.specs.Maps.{InMap}
use Rattle.ciborium_ll.specs.Seen.{Seen, Takes}
use Rattle.ciborium_ll.specs.Views.{offset_of, waiting_of, reader_of, seen}
use Rattle.coset_headers.proofs.Walked.{Walking}
use Rattle.coset_headers.proofs.reader.walk_entries.Given as goal

abbrev pub invariant-entries : goal.invariant-entries
invariant-entries g l = record {
  going : (limit : ℕ) (start : Seen) → Takes start (seen g.R.Read l.fn.decoder) (InMap limit l.fn.entries [])
      → Walking l.nesting l.layers limit start (seen g.R.Read l.decoder) l.entries l.seen l.into l.read;
  failed : g.R.Read.failed (reader_of l.decoder) ≡ g.R.Read.failed (reader_of l.fn.decoder);
  kept : g.R.Read.handle (reader_of l.decoder) ≡ g.R.Read.handle (reader_of l.fn.decoder);
  fresh : waiting_of l.decoder ≡ None;
}

abbrev pub decreases-entries : goal.decreases-entries
decreases-entries g l = 2 ^ 64 - offset_of l.decoder
