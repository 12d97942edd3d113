use Rattle.std.proofs.Common.{◌≡◌, None, []}
use Rattle.ciborium_ll.specs.Views.{seen, waiting_of}
use Rattle.cbor_walk.specs.Grammar.{Item}
use Rattle.cose_sift.specs.Taking.{IsDue, Held, due_by, most_of}
use Rattle.cbor_walk.specs.Walking.{Goes, IsSound}
use Rattle.cose_sift.proofs.Sieve.{Ran}
use Rattle.cose_sift.proofs.sifting.sift.Given as goal

abbrev pub invariant-items : goal.invariant-items
invariant-items g l = record {
  ran : Ran l.options (seen g.R.Read l.fn.decoder) (seen g.R.Read l.decoder) (g.W.Write.written l.fn.out) (g.W.Write.written l.out) l.counts;
  fresh : waiting_of l.decoder ≡ None;
  failed : (seen g.R.Read l.decoder).failed ≡ (seen g.R.Read l.fn.decoder).failed;
  starts : Goes Item (due_by l.taking) [];
  due : IsDue l.taking;
  sound : IsSound l.taking.walk;
  held : Held l.taking [];
  writer : g.W.Write.failed l.out ≡ g.W.Write.failed l.fn.out;
  most : l.taking.walk.most ≡ most_of l.options.max;
  max : l.taking.max ≡ l.options.max;
}
