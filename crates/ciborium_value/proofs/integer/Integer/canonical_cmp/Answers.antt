use Rattle.std.proofs.Common.{◌∙◌, ◌<◌, ◌^◌, ap, length, arith}
use Rattle.std.specs.Ordering.{ordering_then, nat_cmp}
use Rattle.ciborium_ll.specs.Title.{title_of}
use Rattle.ciborium_value.proofs.ValueOrder.{int_canonical}
use Rattle.ciborium_value.proofs.integer.Integer.canonical_cmp.Goals as goal

pub returns : goal.returns
returns c =
    let a = c.integer_title-place.result in
    let b = c.integer_title-other_place.result in
    let p : a.1 < 2 ^ 64 = omega (arith, c.integer_title-place.type_inv) in
    let q : b.1 < 2 ^ 64 = omega (arith, c.integer_title-other_place.type_inv) in
    c.then-2.ensures
    ∙ (λ i. ordering_then (c.then.ensures i) (c.cmp-3.ensures i))
    ∙ (λ i. ordering_then (ordering_then (c.cmp.ensures i) (c.cmp-2.ensures i)) (nat_cmp a.1 b.1))
    ∙ int_canonical c.args.self.now.number c.args.other.now.number a.0 b.0 a.1 b.1 _ _ c.integer_title-place.ensures.place c.integer_title-place.ensures.number c.integer_title-other_place.ensures.place c.integer_title-other_place.ensures.number p q
    (c.title_len.ensures ∙ ap (λ z. length (title_of z)) c.integer_header.ensures)
    (c.title_len-2.ensures ∙ ap (λ z. length (title_of z)) c.integer_header-2.ensures)
