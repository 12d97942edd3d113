use Rattle.std.proofs.Common.{◌≡◌, ◌≤◌, ◌-◌, ◌^◌, ◌+◌, ℕ, List, None, length}
use Rattle.std.specs.Vec.{vec_capacity}
use Rattle.ciborium_ll.specs.Reading.{Moves}
use Rattle.ciborium_ll.specs.Views.{left_of, offset_of, waiting_of, reader_of}
use Rattle.ciborium.specs.Held.{IsEarned}
use Rattle.ciborium.specs.Reading.{OpenAfterHead}
use Rattle.ciborium.proofs.strings.read_open.Given as goal

abbrev pub invariant-parts : goal.invariant-parts
invariant-parts g l = record {
  few : l.inner ≤ offset_of l.decoder;
  taken : Moves (left_of g.R.Read.left l.fn.decoder) (left_of g.R.Read.left l.decoder) (offset_of l.fn.decoder) (offset_of l.decoder)
      (λ (b : List ℕ). OpenAfterHead l.text (l.inner + 1) l.into.items b);
  earned : IsEarned (length l.into.items) (vec_capacity l.into);
  failed : g.R.Read.failed (reader_of l.decoder) ≡ g.R.Read.failed (reader_of l.fn.decoder);
  kept : g.R.Read.handle (reader_of l.decoder) ≡ g.R.Read.handle (reader_of l.fn.decoder);
  fresh : waiting_of l.decoder ≡ None;
}

abbrev pub decreases-parts : goal.decreases-parts
decreases-parts g l = 2 ^ 64 - offset_of l.decoder
