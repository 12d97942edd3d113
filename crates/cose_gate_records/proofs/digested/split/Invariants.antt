use Rattle.std.proofs.Common.{length}
use Rattle.cose_gate_records.proofs.Hashed.{AreCut}
use Rattle.cose_gate_records.proofs.digested.split.Given as goal

-- the digests so far, and the bytes that are left
abbrev pub invariant-loop-rest : goal.invariant-loop-rest
invariant-loop-rest l = AreCut l.bytes l.rest l.digests.items

abbrev pub decreases-loop-rest : goal.decreases-loop-rest
decreases-loop-rest l = length l.rest
