use Rattle.std.proofs.Common.{ap, sym, ◌∙◌, map, option_map}
use Rattle.coset_headers.specs.View.{entry_view}
use Rattle.cose_rules.specs.TokenView.{terms_view}
use Rattle.cose_ruled.specs.declared.token.TokenRefusal.TheVariants.{Claim}
use Rattle.cose_ruled.proofs.Tokens.{by_set}
use Rattle.cose_ruled.proofs.token.by_claims.Goals as goal
use Rattle.cose_ruled.proofs.token.by_claims.Goals.{in-Some, in-None}

pub returns-after-claims_refusal : goal.returns-after-claims_refusal
returns-after-claims_refusal c =
    let all = by_set (terms_view c.args.terms) _ _ _ _ c.in-Ok.ensures (ap (map entry_view) c.deref.ensures.value) c.claims_refusal.ensures in
    elim c.match-claims_refusal.branch [
      | in-Some w ↦ w.result-is ∙ (sym (ap (option_map (λ r. Claim r)) w.in-Some.is) ∙ all)
      | in-None w ↦ w.result-is ∙ (sym (ap (option_map (λ r. Claim r)) w.in-None.is) ∙ all)
    ]
