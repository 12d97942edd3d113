use Rattle.std.proofs.Common.{rules, refl, arith}
use Rattle.ciborium_ll.specs.Views.{seen}
use Rattle.coset_headers.proofs.Walked.{begun, walked_on, walked, faulty}
use Rattle.coset_headers.proofs.reader.walk_entries.Goals as goal

pub entries-init : goal.entries-init
entries-init g c = record {
  going = λ limit start t. begun _ _ limit start (seen g.R.Read c.args.decoder.now) _ _ _ _ c.new-seen.ensures c.requires.empty t;
  failed = refl;
  kept = refl;
  fresh = c.requires.fresh;
}

pub entries-preserved : goal.entries-preserved
entries-preserved g c = record {
  going = λ limit start t.
      let w = c.entries.invariant.going limit start t in
      walked_on g.R.Read.ends _ _ limit start (seen g.R.Read c.entries.decoder) (seen g.R.Read c.next.new.decoder) _ _ _ _ _ _ _ _ _ w (rw c.in-Some.is at (c.in_ok-next.ensures.read limit start w.ps w.taken)) c.fill_entry-read.ensures;
  failed = search rules;
  kept = search rules;
  fresh = search rules;
}

pub returns-in_err-next-clause-read : goal.returns-in_err-next-clause-read
returns-in_err-next-clause-read g c = λ limit start t.
    let w = c.entries.invariant.going limit start t in
    faulty g.R.Read.ends limit start (seen g.R.Read c.next.new.decoder) _ w.ps _ _ _ c.from_residual.ensures.1 (c.in_err-next.ensures.read limit start w.ps w.taken)

pub returns-in-None-clause-read : goal.returns-in-None-clause-read
returns-in-None-clause-read g c = λ limit start t.
    let w = c.entries.invariant.going limit start t in
    walked g.R.Read.ends _ _ limit start (seen g.R.Read c.entries.decoder) (seen g.R.Read c.next.new.decoder) _ _ _ _ _ w (rw c.in-None.is at (c.in_ok-next.ensures.read limit start w.ps w.taken))
