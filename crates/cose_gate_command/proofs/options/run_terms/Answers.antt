use Rattle.cose_gate_command.proofs.Ends.{usually}
use Rattle.cose_gate_command.proofs.options.run_terms.Goals as goal

pub returns-clause-terms : goal.returns-clause-terms
returns-clause-terms c = usually c.default.result c.args.strict c.default.ensures
