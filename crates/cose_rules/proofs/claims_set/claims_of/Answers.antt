use Rattle.std.proofs.Common.{inr}
use Rattle.ciborium_value.specs.View.{view}
use Rattle.cose_rules.proofs.Labelled.{no_set}
use Rattle.cose_rules.proofs.claims_set.claims_of.Goals as goal

pub returns : goal.returns
returns c = inr (no_set (view c.args.payload) c.in-Err.ensures.1)
