use Rattle.std.proofs.Common.{refl, sym, inl, inr}
use Rattle.ciborium_value.specs.View.{view}
use Rattle.cose_rules.proofs.Labelled.{claim_read}
use Rattle.cose_rules.proofs.claims_set.read_claim.Goals as goal
use Rattle.cose_rules.proofs.claims_set.read_claim.Goals.{in-Ok, in-Err}

pub returns-after-push : goal.returns-after-push
returns-after-push c = elim c.match-push.branch [
  | in-Ok w ↦ rw w.result-is (claim_read c.in-Some.label (view c.args.key) c.args.value c.args.claims.now.items c.push.new.self.items c.in-Some.ensures w.in-Ok.ensures.items)
  | in-Err w ↦ rw w.result-is (inl refl)
]

pub returns-in-None : goal.returns-in-None
returns-in-None c = inr (refl, sym c.in-None.ensures)
