use Rattle.std.proofs.Common.{refl}
use Rattle.cose_gate.specs.ElementFaults.{SizeFault}
use Rattle.cose_gate.proofs.Faults.{title_tells, unexpected_here, absent_tells}
use Rattle.cose_gate.proofs.Far.{far_unexpected}
use Rattle.cose_gate.proofs.titles.payload_size.Goals as goal

pub returns-in-Absent-clause-err : goal.returns-in-Absent-clause-err
returns-in-Absent-clause-err g c = (tt, title_tells _ _ _ _ _ _ c.in_ok-header.ensures.ok (λ b rest s. absent_tells b rest _ c.in-Absent.ensures s))

pub returns-in-Other-clause-err : goal.returns-in-Other-clause-err
returns-in-Other-clause-err g c = unexpected_here g.R.Read.ends _ _ _ _ _ SizeFault _ c.in_ok-header.ensures.ok c.no_payload.ensures (λ stop b rest s. (refl, (_, rest, s, c.in-Other.ensures.0, c.in-Other.ensures.1, c.in-Other.ensures.2)))

pub returns-in-Other-clause-far : goal.returns-in-Other-clause-far
returns-in-Other-clause-far g c = far_unexpected 0 _ _ c.no_payload.ensures
