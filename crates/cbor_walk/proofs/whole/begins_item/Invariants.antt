use Rattle.std.proofs.Common.{List, ℕ, Some, Bor}
use Rattle.ciborium_ll.specs.Views.{left_of}
use Rattle.cbor_walk.specs.Walking.{wanted_by}
use Rattle.cbor_walk.proofs.Begins.{Begun}
use Rattle.cbor_walk.proofs.whole.begins_item.Given as goal

abbrev pub invariant-heads : goal.invariant-heads
invariant-heads l = Begun l.bytes (left_of (λ (s : Bor (List ℕ)). Some s.now) l.decoder) (wanted_by l.walk)
