use Rattle.std.proofs.lemmas.Cmp.{int_cmp_total}
use Rattle.ciborium_value.specs.Facts.TextTotal.{text_total, canonical_total, text_tied}
use Rattle.ciborium_value.specs.Facts.Ties.{tied}
use Rattle.ciborium_value.specs.Facts.TreeTotal.{tree_total}
use Rattle.ciborium_value.proofs.laws.orders_are_total.Goals as goal

pub returns : goal.returns
returns c = record { numbers = int_cmp_total; trees = tree_total; texts = text_total; canonical = canonical_total; trees_tie = tied; texts_tie = text_tied }
