use Rattle.std.proofs.Common.{◌∙◌}
use Rattle.ciborium_value.specs.View.{view_pairs}
use Rattle.ciborium_value.specs.Facts.Heads.{each_cmp}
use Rattle.ciborium_value.proofs.ValueOrder.{map_texts}
use Rattle.ciborium_value.proofs.order.+texts.Goals as goal

pub cmp_texts-returns-in-Map-b : goal.cmp_texts-returns-in-Map-b
cmp_texts-returns-in-Map-b t c =
    map_texts c.args.a.now c.args.b.now c.in-Map.x c.in-Map-b.y _ _ c.cmp_heads.ensures c.in-Equal.is c.in-Map.is c.in-Map-b.is
    (c.cmp_entries.ensures ∙ (λ i. each_cmp (view_pairs (c.deref-in-Map-b.ensures.value i)) (view_pairs (c.deref-in-Map-b-2.ensures.value i))))
