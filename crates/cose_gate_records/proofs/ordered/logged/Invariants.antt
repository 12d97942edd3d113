use Rattle.std.proofs.Common.{◌≡◌, take}
use Rattle.cose_gate_records.proofs.ordered.logged.Given as goal

abbrev pub invariant-loop-key : goal.invariant-loop-key
invariant-loop-key l = l.log.items ≡ take l.key-index l.keys
