use Rattle.std.proofs.Common.{◌≡◌, ◌++◌, ◌<◌, ◌≤◌, ℕ, List, length, Ordering, sym, ap, ◌∙◌, arith}
use Rattle.std.proofs.lemmas.Bool.Decides.{nat_tests}
use Rattle.std.specs.Ordering.{ordering_then}
use Rattle.cose_gate_records.specs.Order.{bytes_cmp}
use Rattle.cose_gate_records.proofs.Order.{by_heads}
use Rattle.cose_gate_records.proofs.framing.order_to.Goals as goal

pub returns : goal.returns
returns c = λ more.
    let front = c.args.front.now in
    let head = c.split_at.result.0.now in
    let rest = c.split_at.result.1.now in
    let short : length head ≤ length front = grind (arith, nat_tests, c.min.ensures, c.split_at.ensures.front_len, c.split_at.ensures.back_len) in
    let full : 0 < length rest → length head ≡ length front
    = λ some. grind (arith, nat_tests, c.min.ensures, c.split_at.ensures.front_len, c.split_at.ensures.back_len) in
    ap (λ (z : List ℕ). bytes_cmp z (front ++ more)) c.split_at.ensures.by_index.0
    ∙ (by_heads head rest front more short full ∙ ap (λ (o : Ordering). ordering_then o (bytes_cmp rest more)) (sym c.cmp.ensures))
