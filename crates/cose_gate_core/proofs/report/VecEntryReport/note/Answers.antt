use Rattle.std.proofs.Common.{rules}
use Rattle.cose_gate_core.proofs.report.VecEntryReport.note.Goals as goal

pub returns-clause-ok : goal.returns-clause-ok
returns-clause-ok c = search rules
