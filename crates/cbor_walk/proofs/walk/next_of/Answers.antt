use Rattle.std.proofs.Common.{◌≡◌, ◌≤◌, ◌*◌, ◌^◌, arith, rules}
use Rattle.cbor_walk.specs.Grammar.{after, stated}
use Rattle.cbor_walk.proofs.walk.next_of.Goals as goal

pub returns-in_err-checked_mul-in-Map-Some-clause-none : goal.returns-in_err-checked_mul-in-Map-Some-clause-none
returns-in_err-checked_mul-in-Map-Some-clause-none c =
    let n = c.in-Map-Some.n in
    let many : 2 ^ 64 ≤ 2 * n = omega (arith, c.in_err-checked_mul-in-Map-Some.ensures) in
    let is : after c.args.header ≡ stated 0 (2 * n) = search rules in
    rw c.from_residual.ensures (2 * n, is, many)
