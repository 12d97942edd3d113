use Rattle.std.proofs.Common.{◌≡◌, None}
use Rattle.std.specs.Io.KnownBytes.{Keeps}
use Rattle.ciborium_ll.specs.Views.{seen, waiting_of}
use Rattle.cose_sift.specs.Taking.{IsDue}
use Rattle.cbor_walk.specs.Walking.{IsSound}
use Rattle.cose_sift.proofs.TakenItem.{Begun}
use Rattle.cose_sift.proofs.items.take_item.Given as goal

abbrev pub invariant-steps : goal.invariant-steps
invariant-steps g l = record {
  begun : Begun (seen g.R.Read l.fn.decoder) (seen g.R.Read l.decoder) l.taking;
  due : IsDue l.taking;
  sound : IsSound l.fn.taking.walk → IsSound l.taking.walk;
  fresh : waiting_of l.decoder ≡ None;
  failed : (seen g.R.Read l.decoder).failed ≡ (seen g.R.Read l.fn.decoder).failed;
  out : Keeps (g.W.Write.written l.fn.out) (g.W.Write.written l.out);
  lines : Keeps (g.E.Write.written l.fn.lines) (g.E.Write.written l.lines);
  writer : g.W.Write.failed l.out ≡ g.W.Write.failed l.fn.out;
  most : l.taking.walk.most ≡ l.fn.taking.walk.most;
  max : l.taking.max ≡ l.fn.taking.max;
}
