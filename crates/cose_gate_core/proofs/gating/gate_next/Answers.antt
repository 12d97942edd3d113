use Rattle.std.proofs.Common.{refl, ap, ◌∙◌, arith}
use Rattle.std.specs.Prelude.{Err}
use Rattle.cose_gate_core.proofs.InOrder.{err_is}
use Rattle.cose_gate_core.proofs.Reach.{item_grows}
use Rattle.cose_gate_core.proofs.Outcomes.{same_entry, nothing_read}
use Rattle.cose_gate_core.proofs.Passed.{answer_next, answer_none, answer_unnoted, reached_next, taken_of, passes_far}
use Rattle.cose_gate_core.proofs.gating.gate_next.Goals as goal

-- the item was not taken, or stopped
pub returns-in_err-verdict-clause-ran : goal.returns-in_err-verdict-clause-ran
returns-in_err-verdict-clause-ran g c =
    rw (err_is _ _ c.from_residual.ensures.1) (λ live first done come.
    answer_next g.R.Read.ends _ _ _ _ live _ _ done come _ c.in_err-verdict.ensures.ran refl (λ none same. (c.in_err-verdict.ensures.nothing none).1 (ap Err same)))

pub returns-in_default-clause-ran : goal.returns-in_default-clause-ran
returns-in_default-clause-ran g c = λ live first done come.
    answer_none g.R.Read.ends _ _ _ _ live c.args.item.counts done come (rw c.in_default.is at c.in_ok-verdict.ensures.ran) refl

pub returns-in_err-verdict-clause-far : goal.returns-in_err-verdict-clause-far
returns-in_err-verdict-clause-far g c = rw (err_is _ _ c.from_residual.ensures.1) (passes_far g.R.Read.ends _ _ _ _ _ _ _ _ c.in_err-verdict.ensures.ran)

pub counted-counts-requires : goal.counted-counts-requires
counted-counts-requires g c = let grows = item_grows _ _ _ _ _ _ (taken_of g.R.Read.ends _ _ _ _ _ _ _ _ (rw c.in-Some.is at c.in_ok-verdict.ensures.ran)) in omega arith

pub entry_of-requires : goal.entry_of-requires
entry_of-requires g c = let grows = item_grows _ _ _ _ _ _ (taken_of g.R.Read.ends _ _ _ _ _ _ _ _ (rw c.in-Some.is at c.in_ok-verdict.ensures.ran)) in omega arith

pub returns-in_err-note-clause-ran : goal.returns-in_err-note-clause-ran
returns-in_err-note-clause-ran g c =
    rw (err_is _ _ c.from_residual-in_err-note.ensures.1) (λ live first done come.
    answer_unnoted g.R.Read.ends _ _ _ _ live _ _ done come _ (rw c.in-Some.is at c.in_ok-verdict.ensures.ran) c.in_err-note.ensures.err)

pub returns-in_err-note-clause-nothing : goal.returns-in_err-note-clause-nothing
returns-in_err-note-clause-nothing g c = λ none.
    absurd (nothing_read _ _ _ _ _ _ none (taken_of g.R.Read.ends _ _ _ _ _ _ _ _ (rw c.in-Some.is at c.in_ok-verdict.ensures.ran)))

pub returns-clause-ran : goal.returns-clause-ran
returns-clause-ran g c = λ live first done come.
    reached_next g.R.Read.ends _ _ _ _ _ _ _ _ done come _ (rw c.in-Some.is at c.in_ok-verdict.ensures.ran) _
    (c.entry_of.ensures ∙ same_entry _ _ _ _ _ c.counted-counts.ensures.one c.offset-offset.ensures) c.in_ok-note.ensures.ok c.counted-counts.ensures.passed c.counted-counts.ensures.refused

pub returns-clause-more : goal.returns-clause-more
returns-clause-more g c = (item_grows _ _ _ _ _ _ (taken_of g.R.Read.ends _ _ _ _ _ _ _ _ (rw c.in-Some.is at c.in_ok-verdict.ensures.ran)), c.counted-counts.ensures.one)
