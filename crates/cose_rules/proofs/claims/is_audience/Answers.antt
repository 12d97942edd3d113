use Rattle.ciborium_value.specs.View.{view}
use Rattle.cose_rules.proofs.Tokens.{texts_by, text_other}
use Rattle.cose_rules.proofs.claims.is_audience.Goals as goal

pub returns-in-Some : goal.returns-in-Some
returns-in-Some c = texts_by (view c.args.value.now) c.in-Some.receivers.now.items _ _ c.in-Some.ensures c.deref.ensures.value c.all_texts.ensures

pub returns-in-None : goal.returns-in-None
returns-in-None c = text_other (view c.args.value.now) _ c.in-None.ensures c.is_text.ensures
