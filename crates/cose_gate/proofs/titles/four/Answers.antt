use Rattle.std.proofs.Common.{refl}
use Rattle.cose_gate.specs.ElementFaults.{FourFault}
use Rattle.cose_gate.proofs.Faults.{unexpected_here}
use Rattle.cose_gate.proofs.Far.{far_unexpected}
use Rattle.cose_gate.proofs.titles.four.Goals as goal

pub returns-in-None-clause-err : goal.returns-in-None-clause-err
returns-in-None-clause-err g c = unexpected_here g.R.Read.ends _ _ _ _ _ FourFault _ c.in_ok-header.ensures.ok c.no_array.ensures (λ stop b rest s. (refl, (_, rest, s, c.in-None.ensures)))

pub returns-in-None-clause-far : goal.returns-in-None-clause-far
returns-in-None-clause-far g c = far_unexpected 0 _ _ c.no_array.ensures
