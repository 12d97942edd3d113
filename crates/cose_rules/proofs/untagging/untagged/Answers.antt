use Rattle.std.proofs.Common.{arith}
use Rattle.cose_rules.specs.Untagging.{bare, wrapped}
use Rattle.cose_rules.proofs.Wrapped.{bare_end}
use Rattle.cose_rules.proofs.untagging.untagged.Goals as goal

pub returns-in-None : goal.returns-in-None
returns-in-None c = c.tags.invariant.on c.tags.rest.now (bare c.tags.rest.now c.in-None.ensures.none)

pub returns : goal.returns
returns c = c.tags.invariant.on c.tags.rest.now (bare_end c.tags.rest.now (omega (arith, c.tags.invariant.left)))

pub tags-preserved : goal.tags-preserved
tags-preserved c = record {
  on = λ x u. c.tags.invariant.on x (wrapped c.tags.rest.now c.in-Some.inner.now x c.in-Some.ensures.some.0 u);
  left = omega (arith, c.in-Some.ensures.some.1, c.tags.invariant.left);
}
