-- A text that is written in pieces.
use Rattle.std.proofs.Common.{◌≡◌, ℕ, ◌+◌, List, ◌++◌, Result, Ok, Err, OnOk, OnErr, ap, ◌∙◌}
use Rattle.std.specs.Io.KnownBytes.{Appends}
use Rattle.std.proofs.KnownBytes.{Appends-trans}
use Rattle.ciborium_ll.specs.Device.{AppendsFront, write_failures}
use Rattle.ciborium_ll.specs.declared.write.Write.{Ghosts as Writes}
use Rattle.ciborium_ll.proofs.Appending.{front_then, then_front}
use Rattle.cose_gate.specs.Streaming.{WritesAll}

module _ {W F : Type 0} (w : Writes W F) where
  -- one piece more
  pub one_written : (old mid new : W) (r : Result (Unit {0}) F) (b piece : List ℕ) → WritesAll {T = Unit {0}} w old mid (Ok tt) b
      → OnOk r (Appends (w.written mid) (w.written new) piece) → OnErr r (AppendsFront (w.written mid) (w.written new) piece)
      → w.failed new ≡ write_failures r (w.failed mid) → WritesAll w old new r (b ++ piece)
  one_written old mid new (Ok u) b piece p a f n =
      record { ok = Appends-trans (w.written old) (w.written mid) (w.written new) b piece p.ok a; err = tt; failed = n ∙ p.failed }
  one_written old mid new (Err e) b piece p a f n =
      record { ok = tt; err = then_front (w.written old) (w.written mid) (w.written new) b piece p.ok f; failed = n ∙ ap (λ (k : ℕ). k + 1) p.failed }

  -- after a failure
  pub none_more : (old new : W) (e : F) (b piece : List ℕ) → WritesAll {T = Unit {0}} w old new (Err e) b → WritesAll {T = Unit {0}} w old new (Err e) (b ++ piece)
  none_more old new e b piece p = record { ok = tt; err = front_then (w.written old) (w.written new) b piece p.err; failed = p.failed }
