use Rattle.std.proofs.Common.{ap}
use Rattle.cose_gate_command.specs.Arguments.{gate_in, gate_options, arguments_view}
use Rattle.cose_gate_command.specs.CommandLine.{line_view, wrong_view, options_view}
use Rattle.cose_gate_command.proofs.Reading.{matched, read_all}
use Rattle.cose_gate_command.proofs.arguments.read_arguments.Goals as goal

pub returns-in-Ok : goal.returns-in-Ok
returns-in-Ok c = matched arguments_view wrong_view c.gate_in.result _ _
    (read_all _ gate_options gate_in (line_view c.new-line.result) _ (ap options_view c.new-line.ensures.options) c.new-line.ensures.line c.in-Ok.ensures) c.gate_in.ensures
