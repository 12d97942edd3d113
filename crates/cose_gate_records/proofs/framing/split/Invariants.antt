use Rattle.std.proofs.Common.{◌≡◌, ◌++◌, map, flat_map, length}
use Rattle.cose_gate_records.specs.Framing.{framed}
use Rattle.cose_gate_records.proofs.framing.split.Given as goal

-- the pieces so far, and the bytes that are left
abbrev pub invariant-loop-rest : goal.invariant-loop-rest
invariant-loop-rest l = l.bytes ≡ flat_map framed (map (λ p. p.now) l.pieces.items) ++ l.rest

abbrev pub decreases-loop-rest : goal.decreases-loop-rest
decreases-loop-rest l = length l.rest
