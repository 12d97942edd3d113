use Rattle.std.proofs.Common.{inr, map, ap, sym, ◌∙◌}
use Rattle.coset_headers.specs.View.{entry_view}
use Rattle.coset_headers.specs.Written.{twice}
use Rattle.cose_rules.proofs.Labelled.{once_by, repeated_by}
use Rattle.cose_rules.proofs.claims_set.once.Goals as goal

pub returns-in-Ok-false : goal.returns-in-Ok-false
returns-in-Ok-false c = once_by _ (map entry_view c.in-Ok.claims.items) c.in-Ok.ensures
    (sym c.in-Ok-false.field-0-test ∙ c.in-Ok-false.ensures ∙ ap (λ z. twice (map entry_view z)) c.deref.ensures.value)

pub returns-in-Ok-true : goal.returns-in-Ok-true
returns-in-Ok-true c = inr (repeated_by _ (map entry_view c.in-Ok.claims.items) c.in-Ok.ensures
    (sym c.in-Ok-true.field-0-test ∙ c.in-Ok-true.ensures ∙ ap (λ z. twice (map entry_view z)) c.deref.ensures.value))
