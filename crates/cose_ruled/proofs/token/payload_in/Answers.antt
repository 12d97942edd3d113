use Rattle.ciborium_value.specs.View.{view}
use Rattle.cose_ruled.proofs.Tokens.{payload_by, payload_not}
use Rattle.cose_ruled.proofs.token.payload_in.Goals as goal

pub returns-in-Some : goal.returns-in-Some
returns-in-Some c = payload_by (view c.args.structure.now) c.in-Some.elements.now.items _ _ c.in-Some.ensures c.deref.ensures.value c.last_bytes.ensures

pub returns-in-None : goal.returns-in-None
returns-in-None c = payload_not (view c.args.structure.now) c.in-None.ensures
