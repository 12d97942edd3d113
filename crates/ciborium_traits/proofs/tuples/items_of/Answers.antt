use Rattle.std.proofs.Common.{ap, sym, ◌∙◌}
use Rattle.ciborium_value.specs.View.{view}
use Rattle.ciborium_value.proofs.Views.{view_array}
use Rattle.ciborium_traits.proofs.Items.{not_so_many}
use Rattle.ciborium_traits.proofs.tuples.items_of.Goals as goal

pub returns-then-len-clause-err : goal.returns-then-len-clause-err
returns-then-len-clause-err c =
    not_so_many c.args.len _ c.in-Array.items.items (sym c.bare.ensures ∙ ap view c.in-Array.is ∙ view_array _) (λ e. c.if-len.true (c.len.ensures ∙ c.in-Array.items.ok.0 ∙ e))
