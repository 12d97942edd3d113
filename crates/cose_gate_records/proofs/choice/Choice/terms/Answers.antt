use Rattle.cose_gate_records.proofs.Runs.{chosen}
use Rattle.cose_gate_records.proofs.choice.Choice.terms.Goals as goal

pub returns-in-Some : goal.returns-in-Some
returns-in-Some c = (
  c.in-Some.ensures.0,
  chosen c.in-Some.limits c.args.self.nesting c.args.self.layers c.args.self.strict c.in-Some.ensures.1 c.in-Some.ensures.2,
)
