use Rattle.std.proofs.Common.{◌≡◌, ℕ, ◌≤◌, length}
use Rattle.std.specs.Vec.Iter.{into_iter_items}
use Rattle.ciborium_value.specs.Tree.{Tree}
use Rattle.coset_headers.specs.Levels.{Going, open_left}
use Rattle.coset_headers.proofs.reader.Open.next_signed.Given as goal

abbrev pub invariant-entries : goal.invariant-entries
invariant-entries l = record {
  going : (n : ℕ) (t : Tree) → Going n t l.fn.self l.fn.into → Going n t l.self l.into;
  layers : l.self.layers ≡ l.fn.self.layers;
  left : open_left l.self ≤ open_left l.fn.self;
}

abbrev pub decreases-entries : goal.decreases-entries
decreases-entries l = length (into_iter_items l.self.entries)
