use Rattle.std.proofs.Common.{rules, arith, ◌≡◌, ◌∙◌, length, [], ap, sym, append-nil}
use Rattle.ciborium.specs.Encoding.{enc}
use Rattle.ciborium.specs.Items.{nesting}
use Rattle.ciborium.specs.View.{view}
use Rattle.callers.proofs.Encoded.{front, read_once}
use Rattle.callers.proofs.items.read_encoded.Goals.{else-is_exact-via-then-is_exact+else-offset-input, else-is_exact-via-else-is_exact}
use Rattle.callers.proofs.items.read_encoded.Goals as goal

pub returns-clause-none : goal.returns-clause-none
returns-clause-none c = λ v r is.
    let ok = c.in_ok-value.ensures.ok in
    let at = front _ _ _ _ _ c.args.input.now ok (search rules) in
    let s = read_once c.one_spelling.ensures nesting c.args.input.now ok.bytes [] at.0 v (view c.in_ok-value.value) (append-nil c.args.input.now ∙ at.1) r ok.has.0 in
    let e : length ok.bytes ≡ length c.args.input.now = ap length (sym s.0) in
    elim c.else-is_exact.branch [
      | else-is_exact-via-then-is_exact+else-offset-input w ↦ omega (arith, w.if-offset-input.false, w.offset.ensures, ok.grown, c.from-decoder.ensures.1, e)
      | else-is_exact-via-else-is_exact w ↦ rw w.if-is_exact.false at ok.has.1 (sym s.0 ∙ is ∙ ap enc s.1)
    ]
