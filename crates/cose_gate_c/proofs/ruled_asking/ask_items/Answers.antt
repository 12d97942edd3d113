use Rattle.std.proofs.Common.{inr, refl, option_map}
use Rattle.cose_gate_core.specs.Terms.{limits_of}
use Rattle.cose_gate_records.proofs.Runs.{answers}
use Rattle.cose_rules.specs.TokenView.{terms_view}
use Rattle.cose_gate_c.specs.RuledAsking.{ToldRuled}
use Rattle.cose_gate_c.proofs.ruled_asking.ask_items.Goals as goal

pub returns-in-Some : goal.returns-in-Some
returns-in-Some c = answers (limits_of c.in-Some.terms) _ _ _
    (λ limits written status. ToldRuled limits (option_map terms_view c.args.token) c.args.given.keys.now c.args.given.aad.now c.args.given.input.now c.ask_within.new.lines c.ask_within.result.lines written status)
    _ _ _ c.in-Some.ensures c.ask_within.ensures

pub returns-in-None : goal.returns-in-None
returns-in-None c = inr (c.in-None.ensures, c.no_limits.ensures.status, c.no_limits.ensures.length, refl, c.no_limits.ensures.lines, refl)
