use Rattle.std.proofs.Common.{Bool, MutBor, ap, refl, subst}
use Rattle.std.proofs.KnownBytes.{Keeps-refl}
use Rattle.std.proofs.lemmas.Result.{err_from_is_err_and}
use Rattle.cose_stream.specs.Streams.{IsAnsweredMessage, IsEnd}
use Rattle.cose_stream.proofs.Ending.{stops, reads_no_more, all_known, nothing_more, behind, from_start, taken, all_written, part_usually, not_failed, failed_once, failed_then}
use Rattle.cose_stream.proofs.streaming.check.Goals as goal

pub returns-in-Err-clause-ended : goal.returns-in-Err-clause-ended
returns-in-Err-clause-ended g c =
    rw c.stopped_by.ensures (stops _ _ g.W.Write _ _ g.R.Read.ends _ _ _ _ _ _ c.default-limits.ensures.0 c.default-limits.ensures.1
    (from_start g.R.Read.left _ _ _ (ap (λ (z : MutBor _). z.now) c.from-decoder.ensures.0) c.from-decoder.ensures.2) c.from-decoder.ensures.1 c.in-Err.ensures.err c.in-Err.ensures.part)

pub returns-then-not-streamed-clause-ended : goal.returns-then-not-streamed-clause-ended
returns-then-not-streamed-clause-ended g c =
    let t = taken _ _ _ _ _ _ _ _ _ (g.J.Judge.yes (g.J.Judge.who c.args.judge.now)) _ _ _ _ _ _ _ c.default-limits.ensures.0 c.default-limits.ensures.1 refl
    (from_start g.R.Read.left _ _ _ (ap (λ (z : MutBor _). z.now) c.from-decoder.ensures.0) c.from-decoder.ensures.2) c.from-decoder.ensures.1 c.in-Ok.ensures.ok in
    let part = part_usually g.W.Write _ _ _ _ _ _ c.default-limits.ensures.0 c.default-limits.ensures.1
    (from_start g.R.Read.left _ _ _ (ap (λ (z : MutBor _). z.now) c.from-decoder.ensures.0) c.from-decoder.ensures.2) c.in-Ok.ensures.part in
    ((t.payload, t.front, subst (λ (z : Bool). IsAnsweredMessage (g.J.Judge.yes (g.J.Judge.who c.args.judge.now)) c.args.aad.now z t.payload t.front) c.if-not-streamed.true t.answered, behind _ _ t.front _ t.left (all_known _)), part, not_failed g.W.Write _ _ _ t.payload c.if-is_err.ensures.value t.copied)

pub returns-in_err-has_ended-clause-ended : goal.returns-in_err-has_ended-clause-ended
returns-in_err-has_ended-clause-ended g c =
    let t = taken _ _ _ _ _ _ _ _ _ (g.J.Judge.yes (g.J.Judge.who c.args.judge.now)) _ _ _ _ _ _ _ c.default-limits.ensures.0 c.default-limits.ensures.1 refl
    (from_start g.R.Read.left _ _ _ (ap (λ (z : MutBor _). z.now) c.from-decoder.ensures.0) c.from-decoder.ensures.2) c.from-decoder.ensures.1 c.in-Ok.ensures.ok in
    let part = part_usually g.W.Write _ _ _ _ _ _ c.default-limits.ensures.0 c.default-limits.ensures.1
    (from_start g.R.Read.left _ _ _ (ap (λ (z : MutBor _). z.now) c.from-decoder.ensures.0) c.from-decoder.ensures.2) c.in-Ok.ensures.part in
    let p = err_from_is_err_and c.from_residual.result c.from_residual.ensures.1 in
    rw (p.1, p.2) (reads_no_more _ _ g.W.Write _ _ _ _ _ t.within part c.in_err-has_ended.ensures.err)

pub returns-then-not-branch-clause-ended : goal.returns-then-not-branch-clause-ended
returns-then-not-branch-clause-ended g c =
    let t = taken _ _ _ _ _ _ _ _ _ (g.J.Judge.yes (g.J.Judge.who c.args.judge.now)) _ _ _ _ _ _ _ c.default-limits.ensures.0 c.default-limits.ensures.1 refl
    (from_start g.R.Read.left _ _ _ (ap (λ (z : MutBor _). z.now) c.from-decoder.ensures.0) c.from-decoder.ensures.2) c.from-decoder.ensures.1 c.in-Ok.ensures.ok in
    let part = part_usually g.W.Write _ _ _ _ _ _ c.default-limits.ensures.0 c.default-limits.ensures.1
    (from_start g.R.Read.left _ _ _ (ap (λ (z : MutBor _). z.now) c.from-decoder.ensures.0) c.from-decoder.ensures.2) c.in-Ok.ensures.part in (
      (
        t.payload,
        t.front,
        subst (λ (z : Bool). IsAnsweredMessage (g.J.Judge.yes (g.J.Judge.who c.args.judge.now)) c.args.aad.now z t.payload t.front) c.if-not-streamed.false t.answered,
        behind _ _ t.front _ t.left (subst (IsEnd _) c.if-not-branch.true c.in_ok-has_ended.ensures.ok),
      ),
      part,
      not_failed g.W.Write _ _ _ t.payload c.if-is_err.ensures.value t.copied,
    )

pub returns-in-Ok-flush-clause-ended : goal.returns-in-Ok-flush-clause-ended
returns-in-Ok-flush-clause-ended g c =
    let t = taken _ _ _ _ _ _ _ _ _ (g.J.Judge.yes (g.J.Judge.who c.args.judge.now)) _ _ _ _ _ _ _ c.default-limits.ensures.0 c.default-limits.ensures.1 refl
    (from_start g.R.Read.left _ _ _ (ap (λ (z : MutBor _). z.now) c.from-decoder.ensures.0) c.from-decoder.ensures.2) c.from-decoder.ensures.1 c.in-Ok.ensures.ok in
    let sent = all_written g.W.Write _ _ _ _ t.payload c.if-is_err.ensures.value t.copied c.in-Ok-flush.ensures.same c.in-Ok-flush.ensures.failed in (
      t.payload,
      t.front,
      subst (λ (z : Bool). IsAnsweredMessage (g.J.Judge.yes (g.J.Judge.who c.args.judge.now)) c.args.aad.now z t.payload t.front) c.if-not-streamed.false t.answered,
      nothing_more _ t.front (behind _ _ t.front _ t.left (subst (IsEnd _) c.if-not-branch.false c.in_ok-has_ended.ensures.ok)),
      sent.0,
      sent.1,
      c.in-Ok-flush.ensures.handed,
    )

pub returns-then-is_err-clause-ended : goal.returns-then-is_err-clause-ended
returns-then-is_err-clause-ended g c =
    let t = taken _ _ _ _ _ _ _ _ _ (g.J.Judge.yes (g.J.Judge.who c.args.judge.now)) _ _ _ _ _ _ _ c.default-limits.ensures.0 c.default-limits.ensures.1 refl
    (from_start g.R.Read.left _ _ _ (ap (λ (z : MutBor _). z.now) c.from-decoder.ensures.0) c.from-decoder.ensures.2) c.from-decoder.ensures.1 c.in-Ok.ensures.ok in
    let part = part_usually g.W.Write _ _ _ _ _ _ c.default-limits.ensures.0 c.default-limits.ensures.1
    (from_start g.R.Read.left _ _ _ (ap (λ (z : MutBor _). z.now) c.from-decoder.ensures.0) c.from-decoder.ensures.2) c.in-Ok.ensures.part in
    (failed_once g.W.Write _ _ _ t.payload c.if-is_err.ensures.value t.copied, (_, part, Keeps-refl _))

pub returns-clause-ended : goal.returns-clause-ended
returns-clause-ended g c =
    let t = taken _ _ _ _ _ _ _ _ _ (g.J.Judge.yes (g.J.Judge.who c.args.judge.now)) _ _ _ _ _ _ _ c.default-limits.ensures.0 c.default-limits.ensures.1 refl
    (from_start g.R.Read.left _ _ _ (ap (λ (z : MutBor _). z.now) c.from-decoder.ensures.0) c.from-decoder.ensures.2) c.from-decoder.ensures.1 c.in-Ok.ensures.ok in
    let part = part_usually g.W.Write _ _ _ _ _ _ c.default-limits.ensures.0 c.default-limits.ensures.1
    (from_start g.R.Read.left _ _ _ (ap (λ (z : MutBor _). z.now) c.from-decoder.ensures.0) c.from-decoder.ensures.2) c.in-Ok.ensures.part in
    (failed_then g.W.Write _ _ _ _ t.payload c.if-is_err.ensures.value t.copied c.in-Err-flush.ensures.failed, (_, part, c.in-Err-flush.ensures.same))
