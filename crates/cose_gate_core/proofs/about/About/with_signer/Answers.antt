use Rattle.std.proofs.Common.{rules}
use Rattle.cose_gate_core.proofs.about.About.with_signer.Goals as goal

pub returns-clause-signer : goal.returns-clause-signer
returns-clause-signer c = search rules
