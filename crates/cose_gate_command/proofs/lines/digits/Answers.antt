use Rattle.cose_gate_command.proofs.HexDigits.{two_digits}
use Rattle.cose_gate_command.proofs.lines.digits.Goals as goal

pub returns : goal.returns
returns c = two_digits c.args.byte c.digit.result c.digit-2.result c.digit.ensures c.digit-2.ensures
