use Rattle.std.proofs.Common.{◌≡◌, ◌<◌, ◌^◌, drop}
use Rattle.cose_gate_command.specs.TokenArguments.{digits_after}
use Rattle.cose_gate_command.proofs.tokens.number_in.Given as goal

abbrev pub invariant-loop-digit : goal.invariant-loop-digit
invariant-loop-digit l = (l.number < 10 ^ 16) × (digits_after l.number (drop l.digit-index l.digits) ≡ digits_after 0 l.digits)
