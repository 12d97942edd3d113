use Rattle.ciborium.proofs.Taking.{takes_as}
use Rattle.ciborium.proofs.Passing.{passed_on}
use Rattle.ciborium.proofs.de.from_decoder.Goals as goal

pub returns-clause-ok : goal.returns-clause-ok
returns-clause-ok g c = takes_as _ _ _ _ _ _ c.in_ok-value.ensures.ok (λ b p. p.0)

pub returns-in_err-value-clause-stops : goal.returns-in_err-value-clause-stops
returns-in_err-value-clause-stops g c =
    passed_on _ _ c.from_residual.ensures.1 c.in_err-value.ensures.stops

pub returns-in_err-value-clause-one : goal.returns-in_err-value-clause-one
returns-in_err-value-clause-one g c =
    passed_on _ _ c.from_residual.ensures.1 c.in_err-value.ensures.one
