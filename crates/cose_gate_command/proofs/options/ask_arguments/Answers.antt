use Rattle.std.proofs.Common.{ap}
use Rattle.cose_gate_command.specs.Arguments.{asked_in, ask_options, ask_view}
use Rattle.cose_gate_command.specs.CommandLine.{line_view, wrong_view, options_view}
use Rattle.cose_gate_command.proofs.Reading.{matched, read_all, wrong_word}
use Rattle.cose_gate_command.proofs.options.ask_arguments.Goals as goal

pub returns-in-Ok : goal.returns-in-Ok
returns-in-Ok c = matched ask_view wrong_view c.asked_in.result _ _
    (read_all _ ask_options asked_in (line_view c.new-line.result) _ (ap options_view c.new-line.ensures.options) c.new-line.ensures.line c.in-Ok.ensures) c.asked_in.ensures

pub returns-in-Err : goal.returns-in-Err
returns-in-Err c = wrong_word _ ask_options asked_in (line_view c.new-line.result) _ (wrong_view c.in-Err.wrong) (ap options_view c.new-line.ensures.options) c.new-line.ensures.line c.in-Err.ensures
