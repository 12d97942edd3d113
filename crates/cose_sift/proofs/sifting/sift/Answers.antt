use Rattle.std.proofs.Common.{◌≡◌, refl, ◌∙◌, sym, ap, Err}
use Rattle.std.proofs.lemmas.Result.{IfErr-weaker}
use Rattle.cose_sift.specs.declared.items.Halt.TheVariants as halt
use Rattle.cose_sift.specs.declared.taking.Stop.TheVariants as stop
use Rattle.std.proofs.KnownBytes.{Keeps-refl, Keeps-trans}
use Rattle.ciborium_ll.specs.Views.{seen}
use Rattle.cose_sift.specs.Taking.{failures_at, writer_failures}
use Rattle.cose_sift.proofs.Sieve.{ran_none, ran_on, ran_passed, ran_dropped, ran_uncounted, ran_end, ran_halts, ran_memory, taken_all, taken_long, ran_unwritten, if_ok_as, end_failures, end_written, passed_failures}
use Rattle.cose_sift.proofs.sifting.sift.Goals.{in-Some+in-Ok-pass, in-None}
use Rattle.cose_sift.proofs.sifting.sift.Goals as goal

pub items-init : goal.items-init
items-init g c = record {
  ran = ran_none c.args.options (seen g.R.Read c.args.decoder.now) (g.W.Write.written c.args.out.now) _ refl refl;
  fresh = c.requires.fresh;
  failed = refl;
  writer = refl;
  most = c.new-taking.ensures.most;
  starts = c.new-taking.ensures.starts;
  due = c.new-taking.ensures.due;
  sound = c.new-taking.ensures.sound;
  held = c.new-taking.ensures.held;
  max = c.new-taking.ensures.max;
}

pub returns-in-Ok-ended-clause-ok : goal.returns-in-Ok-ended-clause-ok
returns-in-Ok-ended-clause-ok g c =
    let e = c.in-Ok-ended.ensures.ok in
    if_ok_as _ _ c.handed_on.result c.handed_on.ensures.ok (λ d p.
    ran_end c.args.options (seen g.R.Read c.args.decoder.now) (seen g.R.Read c.items.decoder) (seen g.R.Read c.take_item.new.decoder) (g.W.Write.written c.args.out.now) (g.W.Write.written c.items.out) (g.W.Write.written c.handed_on.new.out)
    c.items.counts d c.in-Err.halt c.items.invariant.ran (Keeps-trans _ _ _ c.in-Err.ensures.out c.handed_on.ensures.out) c.in-Err.ensures.err e.1 (sym c.offset.ensures ∙ e.2 ∙ c.offset-at.ensures) (p ∙ e.0))

pub returns-in-Ok-ended-clause-err : goal.returns-in-Ok-ended-clause-err
returns-in-Ok-ended-clause-err g c = IfErr-weaker c.handed_on.result _ _ (λ h e.
    ran_unwritten c.args.options (seen g.R.Read c.args.decoder.now) (seen g.R.Read c.items.decoder) (seen g.R.Read c.take_item.new.decoder) (g.W.Write.written c.args.out.now) (g.W.Write.written c.items.out) (g.W.Write.written c.handed_on.new.out)
    c.items.counts h c.items.invariant.ran e (Keeps-trans _ _ _ c.in-Err.ensures.out c.handed_on.ensures.out)) c.handed_on.ensures.err

pub returns-in-Ok-ended-clause-failed : goal.returns-in-Ok-ended-clause-failed
returns-in-Ok-ended-clause-failed g c = end_failures c.handed_on.result c.in-Err.halt _ _ (c.in-Err.ensures.failed ∙ ap (failures_at c.in-Err.halt) c.items.invariant.failed) c.in-Ok-ended.ensures.ok.1 c.handed_on.ensures.err

pub returns-in-Ok-ended-clause-writer : goal.returns-in-Ok-ended-clause-writer
returns-in-Ok-ended-clause-writer g c = c.handed_on.ensures.writer
    ∙ ap (writer_failures c.handed_on.result) (end_written c.in-Err.halt _ _ c.in-Err.ensures.writer c.in-Ok-ended.ensures.ok.1 ∙ c.items.invariant.writer)

pub returns-in-Err-ended-clause-err : goal.returns-in-Err-ended-clause-err
returns-in-Err-ended-clause-err g c =
    let e = c.in-Err-ended.ensures.err in
    rw e.0 (ran_halts c.args.options (seen g.R.Read c.args.decoder.now) (seen g.R.Read c.items.decoder) (seen g.R.Read c.take_item.new.decoder) (g.W.Write.written c.args.out.now) (g.W.Write.written c.items.out) (g.W.Write.written c.take_item.new.out)
    c.items.counts c.in-Err.halt c.items.invariant.ran c.in-Err.ensures.err (c.in-Err.ensures.place c.items.invariant.sound) (rw c.items.invariant.most at c.in-Err.ensures.deep c.items.invariant.sound) c.in-Err.ensures.out
    (λ f q. e.1 f (c.offset.ensures ∙ q ∙ sym c.offset-at.ensures)))

pub returns-in-Err-ended-clause-failed : goal.returns-in-Err-ended-clause-failed
returns-in-Err-ended-clause-failed g c = rw c.in-Err-ended.ensures.err.0 (c.in-Err.ensures.failed ∙ ap (failures_at c.in-Err.halt) c.items.invariant.failed)

pub returns-in-Err-ended-clause-writer : goal.returns-in-Err-ended-clause-writer
returns-in-Err-ended-clause-writer g c = rw c.in-Err-ended.ensures.err.0 (c.in-Err.ensures.writer ∙ ap (writer_failures {T = Unit {0}} (Err c.in-Err.halt)) c.items.invariant.writer)

pub returns-in-Err-pass-clause-err : goal.returns-in-Err-pass-clause-err
returns-in-Err-pass-clause-err g c =
    let r = ran_on c.args.options (seen g.R.Read c.args.decoder.now) (seen g.R.Read c.items.decoder) (g.W.Write.written c.args.out.now) (g.W.Write.written c.items.out) (g.W.Write.written c.take_item.new.out) c.items.counts c.items.invariant.ran c.in-Ok.ensures.out in
    ran_memory c.args.options (seen g.R.Read c.args.decoder.now) (seen g.R.Read c.items.decoder) (seen g.R.Read c.take_item.new.decoder) (g.W.Write.written c.args.out.now) (g.W.Write.written c.take_item.new.out) (g.W.Write.written c.pass.new.out)
    c.items.counts c.in-Err-pass.halt c.in-Some.item.now r
    (taken_all c.args.options (seen g.R.Read c.items.decoder) (seen g.R.Read c.take_item.new.decoder) c.take_item.new.taking c.in-Some.item.now c.in-Some.ensures.some.0 c.in-Some.ensures.some.1 (c.in-Ok.ensures.max ∙ c.items.invariant.max) c.in-Ok.ensures.ok)
    c.in-Err-pass.ensures.err

pub returns-in-Err-and-clause-err : goal.returns-in-Err-and-clause-err
returns-in-Err-and-clause-err g c =
    let r = ran_on c.args.options (seen g.R.Read c.args.decoder.now) (seen g.R.Read c.items.decoder) (g.W.Write.written c.args.out.now) (g.W.Write.written c.items.out) (g.W.Write.written c.take_item.new.out) c.items.counts c.items.invariant.ran c.in-Ok.ensures.out in
    elim c.match-bytes.branch [
      | in-Some+in-Ok-pass w ↦ rw w.out-is (ran_uncounted c.args.options (seen g.R.Read c.args.decoder.now) (seen g.R.Read c.items.decoder) (seen g.R.Read c.take_item.new.decoder) (g.W.Write.written c.args.out.now) (g.W.Write.written c.take_item.new.out) (g.W.Write.written w.pass.new.out)
          c.items.counts c.in-Err-and.halt w.in-Some.item.now _ r
          (taken_all c.args.options (seen g.R.Read c.items.decoder) (seen g.R.Read c.take_item.new.decoder) c.take_item.new.taking w.in-Some.item.now w.in-Some.ensures.some.0 w.in-Some.ensures.some.1 (c.in-Ok.ensures.max ∙ c.items.invariant.max) c.in-Ok.ensures.ok)
          w.in-Ok-pass.ensures.ok c.in-Err-and.ensures.err)
      | in-None w ↦ rw (w.out-is, c.in-Err-and.ensures.err) (ran_halts c.args.options (seen g.R.Read c.args.decoder.now) (seen g.R.Read c.items.decoder) (seen g.R.Read c.take_item.new.decoder) (g.W.Write.written c.args.out.now) (g.W.Write.written c.take_item.new.out) (g.W.Write.written c.take_item.new.out)
          c.items.counts _ r tt tt tt (Keeps-refl _) (λ q. let k : halt.Decode stop.TooLong ≡ halt.Decode stop.End = q in cc))
    ]

pub items-preserved : goal.items-preserved
items-preserved g c =
    let r = ran_on c.args.options (seen g.R.Read c.args.decoder.now) (seen g.R.Read c.items.decoder) (g.W.Write.written c.args.out.now) (g.W.Write.written c.items.out) (g.W.Write.written c.take_item.new.out) c.items.counts c.items.invariant.ran c.in-Ok.ensures.out in
    let n = c.in-Ok-and.ensures.ok in
    record {
      ran = elim c.match-bytes.branch [
        | in-Some+in-Ok-pass w ↦ rw w.out-is (ran_passed c.args.options (seen g.R.Read c.args.decoder.now) (seen g.R.Read c.items.decoder) (seen g.R.Read c.take_item.new.decoder) (g.W.Write.written c.args.out.now) (g.W.Write.written c.take_item.new.out) (g.W.Write.written w.pass.new.out)
            c.items.counts c.in-Ok-and.more w.in-Some.item.now _ r
            (taken_all c.args.options (seen g.R.Read c.items.decoder) (seen g.R.Read c.take_item.new.decoder) c.take_item.new.taking w.in-Some.item.now w.in-Some.ensures.some.0 w.in-Some.ensures.some.1 (c.in-Ok.ensures.max ∙ c.items.invariant.max) c.in-Ok.ensures.ok)
            w.in-Ok-pass.ensures.ok (rw w.is_sifted-is at n))
        | in-None w ↦ let m = rw w.is_sifted-is at n in rw w.out-is (ran_dropped c.args.options (seen g.R.Read c.args.decoder.now) (seen g.R.Read c.items.decoder) (seen g.R.Read c.take_item.new.decoder) (g.W.Write.written c.args.out.now) (g.W.Write.written c.take_item.new.out) (g.W.Write.written c.take_item.new.out)
            c.items.counts c.in-Ok-and.more r (taken_long c.args.options (seen g.R.Read c.items.decoder) (seen g.R.Read c.take_item.new.decoder) c.take_item.new.taking w.in-None.ensures.none (c.in-Ok.ensures.max ∙ c.items.invariant.max) c.in-Ok.ensures.ok) (Keeps-refl _) m.0 m.1)
      ];
      fresh = c.in-Ok.ensures.fresh;
      failed = c.in-Ok.ensures.failed ∙ c.items.invariant.failed;
      writer = elim c.match-bytes.branch [
        | in-Some+in-Ok-pass w ↦ rw w.out-is (w.in-Ok-pass.ensures.writer ∙ c.in-Ok.ensures.writer ∙ c.items.invariant.writer)
        | in-None w ↦ rw w.out-is (c.in-Ok.ensures.writer ∙ c.items.invariant.writer)
      ];
      most = c.restart.ensures.most ∙ c.in-Ok.ensures.most ∙ c.items.invariant.most;
      starts = c.restart.ensures.starts;
      due = c.restart.ensures.due;
      sound = c.restart.ensures.sound;
      held = c.restart.ensures.held;
      max = c.restart.ensures.max ∙ c.in-Ok.ensures.max ∙ c.items.invariant.max;
    }

pub returns-clause-err : goal.returns-clause-err
returns-clause-err g c = ran_halts c.args.options (seen g.R.Read c.args.decoder.now) (seen g.R.Read c.items.decoder) (seen g.R.Read c.items.decoder) (g.W.Write.written c.args.out.now) (g.W.Write.written c.items.out) (g.W.Write.written c.items.out) c.items.counts _ c.items.invariant.ran tt tt tt (Keeps-refl _) (λ q. let k : halt.Decode stop.TooLong ≡ halt.Decode stop.End = q in cc)

pub returns-in-Err-pass-clause-failed : goal.returns-in-Err-pass-clause-failed
returns-in-Err-pass-clause-failed g c = passed_failures _ _ c.in-Err-pass.halt _ _ (c.in-Ok.ensures.failed ∙ c.items.invariant.failed) c.in-Err-pass.ensures.err

pub returns-in-Err-pass-clause-writer : goal.returns-in-Err-pass-clause-writer
returns-in-Err-pass-clause-writer g c = c.in-Err-pass.ensures.writer ∙ ap (writer_failures {T = Unit {0}} (Err c.in-Err-pass.halt)) (c.in-Ok.ensures.writer ∙ c.items.invariant.writer)

pub returns-in-Err-and-clause-writer : goal.returns-in-Err-and-clause-writer
returns-in-Err-and-clause-writer g c = elim c.match-bytes.branch [
  | in-Some+in-Ok-pass w ↦ rw (w.out-is, c.in-Err-and.ensures.err) (w.in-Ok-pass.ensures.writer ∙ c.in-Ok.ensures.writer ∙ c.items.invariant.writer)
  | in-None w ↦ rw (w.out-is, c.in-Err-and.ensures.err) (c.in-Ok.ensures.writer ∙ c.items.invariant.writer)
]
