use Rattle.std.proofs.lemmas.Grind.{common_steps}
use Rattle.std.proofs.Common.{rules, arith, length-append}
use Rattle.ciborium.proofs.Halting.{some_then, memory_then}
use Rattle.ciborium.proofs.Taking.{takes_as}
use Rattle.ciborium.proofs.Passing.{passed_on}
use Rattle.ciborium.proofs.strings.read_bytes.Goals as goal

pub returns-in_err-read_piece-clause-err : goal.returns-in_err-read_piece-clause-err
returns-in_err-read_piece-clause-err g c = grind (arith, common_steps)

pub returns-in_err-read_piece-clause-leaves : goal.returns-in_err-read_piece-clause-leaves
returns-in_err-read_piece-clause-leaves g c =
    record { stops = passed_on _ _ c.from_residual.ensures.1 (some_then _ _ _ c.pieces.invariant.taken c.in_err-read_piece.ensures.leaves.stops); one = passed_on _ _ c.from_residual.ensures.1 (memory_then _ _ _ _ _ _ _ _ _ _ c.pieces.invariant.taken (λ x y q r. omega (arith, q.0, r, length-append x y, c.min-size.ensures, c.pieces-test.true)) c.in_err-read_piece.ensures.leaves.one); steady = search rules }

pub returns-in_default-clause-leaves : goal.returns-in_default-clause-leaves
returns-in_default-clause-leaves g c =
    record { stops = search rules; one = takes_as _ _ _ _ _ _ c.pieces.invariant.taken (λ x p. omega (arith, p.0, c.pieces.invariant.within)); steady = search rules }
