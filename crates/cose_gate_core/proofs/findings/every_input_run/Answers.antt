use Rattle.cose_gate_core.proofs.Fronts.{runs_alike}
use Rattle.cose_gate_core.proofs.FindingCases.{run_there, course_goes_on}
use Rattle.cose_gate_core.proofs.findings.every_input_run.Goals as goal

pub returns : goal.returns
returns c = record { there = run_there; entries = runs_alike; goes_on = course_goes_on }
