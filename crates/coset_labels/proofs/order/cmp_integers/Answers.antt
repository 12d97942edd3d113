use Rattle.std.proofs.Common.{◌∙◌, ◌<◌, ◌^◌, ap, arith, w64}
use Rattle.std.proofs.lemmas.Int.{to_z-of_z}
use Rattle.std.specs.Ordering.{ordering_then}
use Rattle.ciborium_value.specs.Facts.Heads.{int_place, int_number}
use Rattle.coset_labels.proofs.Orders.{integers_by_heads}
use Rattle.coset_labels.proofs.order.cmp_integers.Goals as goal

pub returns : goal.returns
returns c =
    let x = c.integer_title-a_place in
    let y = c.integer_title-b_place in
    let s = to_z-of_z w64 c.args.a c.ranges.a in
    let t = to_z-of_z w64 c.args.b c.ranges.b in
    let p : x.result.1 < 2 ^ 64 = omega (arith, x.type_inv) in
    let q : y.result.1 < 2 ^ 64 = omega (arith, y.type_inv) in
    c.then.ensures
    ∙ (λ i. ordering_then (c.cmp.ensures i) (c.cmp-2.ensures i))
    ∙ integers_by_heads c.args.a c.args.b _ _ _ _ (x.ensures.place ∙ ap int_place s) (y.ensures.place ∙ ap int_place t) (x.ensures.number ∙ ap int_number s) (y.ensures.number ∙ ap int_number t) p q
