use Rattle.cose_gate_program.proofs.Tellings.{ends_as}
use Rattle.callers.proofs.asking.run_gated.Goals as goal

pub returns : goal.returns
returns g c = ends_as c.run_with.ensures.ran (λ ns last told. tt)
