use Rattle.std.proofs.Common.{◌≡◌, length, map}
use Rattle.std.specs.Prelude.{string_bytes}
use Rattle.cose_gate_command.specs.Starting.{page_for}
use Rattle.cose_gate_command.proofs.starting.page_for.Given as goal

abbrev pub invariant-loop-word : goal.invariant-loop-word
invariant-loop-word l = page_for l.fn.help l.fn.version (map string_bytes l.rest) ≡ page_for l.fn.help l.fn.version (map string_bytes l.fn.words)

abbrev pub decreases-loop-word : goal.decreases-loop-word
decreases-loop-word l = length l.rest
