use Rattle.ciborium_value.specs.View.{view}
use Rattle.cose_rules.proofs.Tokens.{for_by, for_other}
use Rattle.cose_rules.proofs.claims.is_for.Goals as goal

pub returns-in-Some : goal.returns-in-Some
returns-in-Some c = for_by c.args.wanted.now (view c.args.value.now) c.in-Some.receivers.now.items _ _ c.in-Some.ensures c.deref.ensures.value c.any_text_of.ensures

pub returns-in-None : goal.returns-in-None
returns-in-None c = for_other c.args.wanted.now (view c.args.value.now) _ c.in-None.ensures c.is_text_of.ensures
