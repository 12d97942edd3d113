use Rattle.std.proofs.Common.{◌∙◌}
use Rattle.ciborium_value.specs.View.{view}
use Rattle.ciborium_value.proofs.TextOrder.{canonical_order}
use Rattle.ciborium_value.proofs.ValueOrder.{equal_lengths}
use Rattle.ciborium_value.proofs.order.cmp_value.Goals as goal

pub returns-in-Equal : goal.returns-in-Equal
returns-in-Equal c =
    let a = view c.args.v1.now in
    let b = view c.args.v2.now in
    let f = c.encoded_len.ensures.sized in
    let g = c.encoded_len-2.ensures.sized in
    let e = equal_lengths a b c.cmp_texts.result _ _ c.in-Equal.ensures c.encoded_len.ensures.len c.encoded_len-2.ensures.len c.cmp_texts.ensures f g in
    record { by_texts = e; total = e ∙ canonical_order a b f g }
