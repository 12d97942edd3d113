use Rattle.std.proofs.Common.{sym, ◌∙◌, rules}
use Rattle.cose_gate_core.proofs.Outcomes.{nothing_fails, nothing_answer}
use Rattle.cose_gate_core.proofs.gating.next_front.Goals as goal
use Rattle.cose_gate_core.proofs.gating.next_front.Goals.{then-is_end+else-offset, else-is_end}

pub returns-in-Err-2-clause-nothing : goal.returns-in-Err-2-clause-nothing
returns-in-Err-2-clause-nothing g c = λ none. (
  λ same small. nothing_answer g.R.Read.ends _ _ c.in-Err-2.error _ _ (nothing_fails g.R.Read.ends _ _ _ c.in-Err-2.error (rw none at c.in-Err-2.ensures.err) (c.in-Err-2.ensures.nothing none) small)
      (λ at_end stays. elim c.if-is_end.branch [
        | then-is_end+else-offset w ↦ w.if-offset.false (w.offset.ensures ∙ stays ∙ sym c.offset-offset.ensures)
        | else-is_end w ↦ (cc (c.is_end.ensures, at_end, w.if-is_end.false))
      ])
      c.in-Err-2.ensures.leaves.steady.failed same,
  search rules,
)
