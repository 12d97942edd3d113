use Rattle.std.proofs.Common.{◌∙◌, ◌<◌, ◌^◌, ap, length, arith, w64}
use Rattle.std.proofs.lemmas.Int.{to_z-of_z}
use Rattle.std.specs.Ordering.{ordering_then, nat_cmp}
use Rattle.ciborium_value.specs.Tree.{integer, text}
use Rattle.ciborium_value.specs.Facts.Heads.{int_place, int_number}
use Rattle.coset_labels.proofs.Orders.{heads_text, int_sized}
use Rattle.coset_labels.proofs.order.cmp_text_integer.Goals as goal

pub returns : goal.returns
returns c =
    let x = c.integer_title-place in
    let b = c.args.s.now in
    let s = to_z-of_z w64 c.args.i c.ranges.i in
    let p : x.result.1 < 2 ^ 64 = omega (arith, x.type_inv) in
    let q : length b < 2 ^ 64 = omega arith in
    let m = x.ensures.place ∙ ap int_place s in
    let n = x.ensures.number ∙ ap int_number s in
    record {
      greater =
          c.then.ensures
          ∙ (λ i. ordering_then (c.cmp.ensures i) (c.cmp-2.ensures i))
          ∙ (λ i. ordering_then (nat_cmp 3 (m i)) (nat_cmp (length b) (n i)))
          ∙ heads_text (text b) (integer c.args.i) q (int_sized c.args.i _ n p);
    }
