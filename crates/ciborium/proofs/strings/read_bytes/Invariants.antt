use Rattle.std.proofs.Common.{◌≡◌, ◌≤◌, ◌-◌, ◌+◌, ◌++◌, ℕ, List, [], None, length}
use Rattle.std.specs.Prelude.{max}
use Rattle.std.specs.Vec.{vec_capacity}
use Rattle.ciborium_ll.specs.Reading.{Moves}
use Rattle.ciborium_ll.specs.Views.{left_of, offset_of, waiting_of, reader_of}
use Rattle.ciborium.specs.Held.{IsEarned}
use Rattle.ciborium.proofs.strings.read_bytes.Given as goal

abbrev pub invariant-pieces : goal.invariant-pieces
invariant-pieces g l = record {
  within : l.got ≤ l.n;
  taken : Moves (left_of g.R.Read.left l.fn.decoder) (left_of g.R.Read.left l.decoder) (offset_of l.fn.decoder) (offset_of l.decoder)
      (λ (b : List ℕ). (length b ≡ l.got) × (l.into.items ≡ l.fn.into.items ++ b));
  long : length l.into.items ≡ length l.fn.into.items + l.got;
  earned : IsEarned (length l.into.items) (vec_capacity l.into);
  alone : l.fn.into.items ≡ [] → vec_capacity l.into ≤ max (vec_capacity l.fn.into) l.n;
  failed : g.R.Read.failed (reader_of l.decoder) ≡ g.R.Read.failed (reader_of l.fn.decoder);
  kept : g.R.Read.handle (reader_of l.decoder) ≡ g.R.Read.handle (reader_of l.fn.decoder);
  fresh : waiting_of l.decoder ≡ None;
}

abbrev pub decreases-pieces : goal.decreases-pieces
decreases-pieces g l = l.n - l.got
