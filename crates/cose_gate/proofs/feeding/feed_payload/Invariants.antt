use Rattle.std.proofs.Common.{◌≡◌, ◌<◌, None, length}
use Rattle.ciborium_ll.specs.Views.{left_of, offset_of, reader_of, waiting_of}
use Rattle.ciborium_ll.specs.Reading.{Moves}
use Rattle.cose_gate.specs.Streaming.{WritesAll}
use Rattle.cose_gate.proofs.Fed.{Fed, Begun}
use Rattle.cose_gate.proofs.feeding.feed_payload.Given as goal

abbrev pub invariant-pieces : goal.invariant-pieces
invariant-pieces g l =
    let r = g.R.Read in
    let j = g.J.Judge in
    let w = g.W.Write in
    record {
      who : j.who l.judge ≡ j.who l.fn.judge;
      told : j.told l.judge ≡ j.told l.fn.judge;
      failed : r.failed (reader_of l.decoder) ≡ r.failed (reader_of l.fn.decoder);
      kept : r.handle (reader_of l.decoder) ≡ r.handle (reader_of l.fn.decoder);
      fresh : waiting_of l.decoder ≡ None;
      room : l.room ≡ length l.buffer;
      some : 0 < l.room;
      taken : Moves (left_of r.left l.fn.decoder) (left_of r.left l.decoder) (offset_of l.fn.decoder) (offset_of l.decoder)
          (Fed j.holds l.fn.judge l.judge (WritesAll w l.fn.out l.out l.written) l.size l.due);
      lent : w.handle l.out ≡ w.handle l.fn.out;
      pieces : Begun l.room l.size l.due (j.pieces l.fn.judge) (j.pieces l.judge);
    }

abbrev pub decreases-pieces : goal.decreases-pieces
decreases-pieces g l = l.due
