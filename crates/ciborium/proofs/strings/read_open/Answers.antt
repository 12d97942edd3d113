use Rattle.std.proofs.Common.{◌≡◌, ◌+◌, ◌∙◌, sym, ap, arith, rules, refl}
use Rattle.ciborium_ll.specs.Views.{last_head}
use Rattle.ciborium.specs.Reading.{string_head}
use Rattle.ciborium.proofs.Taking.{takes_none}
use Rattle.ciborium.proofs.StringLemmas.{open_start, titled, title_grows, step_done, step_less, step_more, step_chunk, chunk_earned, open_title_fails, open_chunk_fails, open_other_fails}
use Rattle.ciborium.proofs.Halting.{some_then, both_taken, not_memory}
use Rattle.ciborium.proofs.OneItem.{open_memory}
use Rattle.ciborium.proofs.Passing.{passed_on}
use Rattle.ciborium.proofs.strings.read_open.Goals as goal

pub parts-init : goal.parts-init
parts-init g c = record { few = omega arith; taken = takes_none _ _ _ (open_start _ _ c.requires.empty); earned = omega (arith, c.requires.earned); failed = refl; kept = refl; fresh = c.requires.fresh }

pub returns-in_err-next_head-clause-err : goal.returns-in_err-next_head-clause-err
returns-in_err-next_head-clause-err g c =
    passed_on _ _ c.from_residual.ensures.1 (open_title_fails _ _ _ _ _ _ _ _ _ _ _ c.parts.invariant.taken c.in_err-next_head.ensures.err)

pub returns-then-inner-eq0-clause-ok : goal.returns-then-inner-eq0-clause-ok
returns-then-inner-eq0-clause-ok g c =
    step_done _ _ _ (last_head c.next_head.new.decoder) _ _ _ _ _ _ c.parts.invariant.taken (titled _ _ _ _ (last_head c.next_head.new.decoder) _ c.in_ok-next_head.ensures.ok) (sym c.head.ensures ∙ c.if-is_break.ensures) (let e : c.parts.inner + 1 ≡ 1 = omega arith in e)

pub parts-preserved : goal.parts-preserved
parts-preserved g c =
    let m = title_grows _ _ _ _ (last_head c.next_head.new.decoder) (titled _ _ _ _ (last_head c.next_head.new.decoder) _ c.in_ok-next_head.ensures.ok) in
    record { few = omega arith; taken = step_less _ (c.parts.inner + 1) _ _ (last_head c.next_head.new.decoder) _ _ _ _ _ _ c.parts.invariant.taken (titled _ _ _ _ (last_head c.next_head.new.decoder) _ c.in_ok-next_head.ensures.ok) (sym c.head.ensures ∙ c.if-is_break.ensures) (omega arith) (omega arith); earned = c.parts.invariant.earned; failed = search rules; kept = search rules; fresh = search rules }

pub parts-preserved-in-None : goal.parts-preserved-in-None
parts-preserved-in-None g c =
    let m = title_grows _ _ _ _ (last_head c.next_head.new.decoder) (titled _ _ _ _ (last_head c.next_head.new.decoder) _ c.in_ok-next_head.ensures.ok) in
    record { few = omega arith; taken = step_more _ (c.parts.inner + 1) _ (last_head c.next_head.new.decoder) _ _ _ _ _ _ c.parts.invariant.taken (titled _ _ _ _ (last_head c.next_head.new.decoder) _ c.in_ok-next_head.ensures.ok) (c.if-is_string.ensures ∙ ap (string_head c.args.text) (sym c.in-None.ensures)); earned = c.parts.invariant.earned; failed = search rules; kept = search rules; fresh = search rules }

pub parts-preserved-in-Continue-branch-2 : goal.parts-preserved-in-Continue-branch-2
parts-preserved-in-Continue-branch-2 g c =
    let m = title_grows _ _ _ _ (last_head c.next_head.new.decoder) (titled _ _ _ _ (last_head c.next_head.new.decoder) _ c.in_ok-next_head.ensures.ok) in
    let k = c.in_ok-read_chunk-in-Some.ensures.ok.grown in
    record { few = omega arith; taken = step_chunk _ (c.parts.inner + 1) _ _ _ (last_head c.next_head.new.decoder) _ _ _ _ _ _ _ _ c.parts.invariant.taken (titled _ _ _ _ (last_head c.next_head.new.decoder) _ c.in_ok-next_head.ensures.ok) (c.if-is_string.ensures ∙ ap (string_head c.args.text) (sym c.in-Some.ensures)) c.in_ok-read_chunk-in-Some.ensures.ok; earned = chunk_earned _ _ _ _ _ _ _ _ _ c.in_ok-read_chunk-in-Some.ensures.ok c.in_ok-read_chunk-in-Some.ensures.held; failed = search rules; kept = search rules; fresh = search rules }

pub returns-in_err-read_chunk-in-Some-clause-err : goal.returns-in_err-read_chunk-in-Some-clause-err
returns-in_err-read_chunk-in-Some-clause-err g c =
    passed_on _ _ c.from_residual-in_err-read_chunk-in-Some.ensures.1 (open_chunk_fails _ _ _ _ _ _ _ _ _ _ _ _ _ _ (last_head c.next_head.new.decoder) _ c.parts.invariant.taken (titled _ _ _ _ (last_head c.next_head.new.decoder) _ c.in_ok-next_head.ensures.ok) (c.if-is_string.ensures ∙ ap (string_head c.args.text) (sym c.in-Some.ensures)) c.offset-place.ensures c.in_err-read_chunk-in-Some.ensures.err)

pub returns-else-is_break-clause-err : goal.returns-else-is_break-clause-err
returns-else-is_break-clause-err g c =
    open_other_fails g.R.Read.ends _ _ _ _ _ _ _ _ _ _ _ (last_head c.next_head.new.decoder) c.parts.invariant.taken (titled _ _ _ _ (last_head c.next_head.new.decoder) _ c.in_ok-next_head.ensures.ok) (λ e. c.if-is_break.ensures (c.head.ensures ∙ e), c.if-is_string.ensures) c.offset-place.ensures

pub returns-in_err-next_head-clause-leaves : goal.returns-in_err-next_head-clause-leaves
returns-in_err-next_head-clause-leaves g c =
    record { stops = passed_on _ _ c.from_residual.ensures.1 (some_then _ _ _ c.parts.invariant.taken c.in_err-next_head.ensures.stops); one = passed_on _ _ c.from_residual.ensures.1 (not_memory _ _ c.in_err-next_head.ensures.memory); steady = search rules }

pub returns-in_err-read_chunk-in-Some-clause-leaves : goal.returns-in_err-read_chunk-in-Some-clause-leaves
returns-in_err-read_chunk-in-Some-clause-leaves g c =
    record { stops = passed_on _ _ c.from_residual-in_err-read_chunk-in-Some.ensures.1 (some_then _ _ _ c.parts.invariant.taken (some_then _ _ _ c.in_ok-next_head.ensures.ok c.in_err-read_chunk-in-Some.ensures.leaves.stops)); one = passed_on _ _ c.from_residual-in_err-read_chunk-in-Some.ensures.1 (open_memory _ _ _ _ (last_head c.next_head.new.decoder) _ _ _ _ _ _ _ _ _ c.parts.invariant.taken (titled _ _ _ _ (last_head c.next_head.new.decoder) _ c.in_ok-next_head.ensures.ok) (c.if-is_string.ensures ∙ ap (string_head c.args.text) (sym c.in-Some.ensures)) c.in_err-read_chunk-in-Some.ensures.leaves.one); steady = search rules }

pub returns-else-is_break-clause-leaves : goal.returns-else-is_break-clause-leaves
returns-else-is_break-clause-leaves g c =
    record { stops = both_taken c.parts.invariant.taken c.in_ok-next_head.ensures.ok; one = search rules; steady = search rules }
