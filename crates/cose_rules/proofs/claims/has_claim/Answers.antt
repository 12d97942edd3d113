use Rattle.std.proofs.Common.{◌∙◌}
use Rattle.coset_labels.specs.View.{label_view}
use Rattle.cose_rules.proofs.Tokens.{there}
use Rattle.cose_rules.proofs.claims.has_claim.Goals as goal

pub returns : goal.returns
returns c = c.any_same.ensures ∙ there (label_view c.args.label.now) c.args.claims.now
