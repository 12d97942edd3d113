use Rattle.std.proofs.Common.{◌≡◌, true, false, sym, ◌∙◌}
use Rattle.cose_gate_core.proofs.passing.is_shortest.Goals as goal
use Rattle.cose_gate_core.proofs.passing.is_shortest.Goals.{else-exact-via-then-exact+else-is_as_written, else-exact-via-else-exact}

pub returns : goal.returns
returns g c = λ l m h. (
  c.if-not-strict.false,
  c.value_fits.ensures,
  λ exact written. elim c.else-exact.branch [
    | else-exact-via-then-exact+else-is_as_written w ↦ (rw w.if-is_as_written.false at (w.is_as_written.ensures l m h)) written
    | else-exact-via-else-exact w ↦ (let same : true ≡ false = sym exact ∙ w.if-exact.false in cc)
  ],
)
