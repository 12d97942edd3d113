use Rattle.std.proofs.Common.{◌≡◌, length}
use Rattle.cose_gate_command.specs.CommandLine as spec
use Rattle.cose_gate_command.specs.CommandLine.{line_view, options_view}
use Rattle.cose_gate_command.proofs.command_line.CommandLine.last_words.Given as goal

abbrev pub invariant-loop-word : goal.invariant-loop-word
invariant-loop-word l = spec.last_words (line_view l.line) ≡ spec.last_words (line_view l.fn.self)

abbrev pub decreases-loop-word : goal.decreases-loop-word
decreases-loop-word l = length l.line.words.now
