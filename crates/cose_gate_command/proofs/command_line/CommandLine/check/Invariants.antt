use Rattle.std.proofs.Common.{◌≡◌, length}
use Rattle.cose_gate_command.specs.CommandLine.{line_view, options_view, checked}
use Rattle.cose_gate_command.proofs.command_line.CommandLine.check.Given as goal

abbrev pub invariant-loop-word : goal.invariant-loop-word
invariant-loop-word l = (l.line.options ≡ l.fn.self.options) × (checked (options_view l.fn.self.options) (line_view l.line) ≡ checked (options_view l.fn.self.options) (line_view l.fn.self))

abbrev pub decreases-loop-word : goal.decreases-loop-word
decreases-loop-word l = length l.line.words.now
