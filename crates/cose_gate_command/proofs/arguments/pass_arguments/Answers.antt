use Rattle.std.proofs.Common.{ap}
use Rattle.cose_gate_command.specs.Arguments.{pass_in, pass_options, pass_view}
use Rattle.cose_gate_command.specs.CommandLine.{line_view, wrong_view, options_view}
use Rattle.cose_gate_command.proofs.Reading.{matched, read_all}
use Rattle.cose_gate_command.proofs.arguments.pass_arguments.Goals as goal

pub returns-in-Ok : goal.returns-in-Ok
returns-in-Ok c = matched pass_view wrong_view c.pass_in.result _ _
    (read_all _ pass_options pass_in (line_view c.new-line.result) _ (ap options_view c.new-line.ensures.options) c.new-line.ensures.line c.in-Ok.ensures) c.pass_in.ensures
