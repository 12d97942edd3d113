use Rattle.std.proofs.Common.{◌∙◌, ◌<◌, ◌^◌, length, arith}
use Rattle.std.specs.Ordering.{ordering_then}
use Rattle.ciborium_value.specs.Tree.{text}
use Rattle.coset_labels.proofs.Orders.{heads_text}
use Rattle.coset_labels.proofs.order.cmp_texts.Goals as goal

pub returns : goal.returns
returns c =
    let a = c.args.a.now in
    let b = c.args.b.now in
    let p : length a < 2 ^ 64 = omega arith in
    let q : length b < 2 ^ 64 = omega arith in
    c.then.ensures ∙ (λ i. ordering_then (c.cmp.ensures i) (c.cmp-2.ensures i)) ∙ heads_text (text a) (text b) p q
