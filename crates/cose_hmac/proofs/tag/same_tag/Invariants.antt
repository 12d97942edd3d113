use Rattle.std.proofs.Common.{length}
use Rattle.cose_hmac.proofs.Differences.{Differs}
use Rattle.cose_hmac.proofs.tag.same_tag.Given as goal

abbrev pub invariant-loop-x : goal.invariant-loop-x
invariant-loop-x l = Differs l.a l.b (length l.yielded) l.difference
