use Rattle.std.proofs.Common.{rules, subst, sym, ◌∙◌, w64}
use Rattle.std.proofs.lemmas.Int.{to_z-of_z}
use Rattle.coset_labels.specs.Fields.{assigned}
use Rattle.coset_claims.specs.Steps.{Names}
use Rattle.coset_claims.specs.View.{name_view}
use Rattle.coset_claims.proofs.reader.place_of.Goals as goal

pub returns-in-Assigned : goal.returns-in-Assigned
returns-in-Assigned c =
    subst (λ name. Names c.place_at.result (name_view name)) (sym c.in-Assigned.is)
    (subst (λ i. Names c.place_at.result (assigned i)) (to_z-of_z w64 c.to_i64.result (search rules) ∙ c.to_i64.ensures.number) c.place_at.ensures)
