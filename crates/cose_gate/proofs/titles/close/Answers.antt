use Rattle.std.proofs.Common.{refl}
use Rattle.cose_gate.specs.ElementFaults.{CloseFault}
use Rattle.cose_gate.proofs.Faults.{unexpected_here}
use Rattle.cose_gate.proofs.Far.{far_unexpected}
use Rattle.cose_gate.proofs.titles.close.Goals as goal

pub returns-then-not-is_break-clause-err : goal.returns-then-not-is_break-clause-err
returns-then-not-is_break-clause-err g c = unexpected_here g.R.Read.ends _ _ _ _ _ CloseFault _ c.in_ok-header.ensures.ok c.not_four.ensures (λ stop b rest s. (refl, (_, rest, s, c.if-not-is_break.ensures)))

pub returns-then-not-is_break-clause-far : goal.returns-then-not-is_break-clause-far
returns-then-not-is_break-clause-far g c = far_unexpected 0 _ _ c.not_four.ensures
