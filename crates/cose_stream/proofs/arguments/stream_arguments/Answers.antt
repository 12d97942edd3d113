use Rattle.std.proofs.Common.{ap}
use Rattle.cose_gate_command.specs.CommandLine.{line_view, wrong_view, options_view}
use Rattle.cose_gate_command.proofs.Reading.{matched, read_all, wrong_word}
use Rattle.cose_stream.specs.Arguments.{stream_in, stream_options, stream_view}
use Rattle.cose_stream.proofs.arguments.stream_arguments.Goals as goal

pub returns-in-Ok : goal.returns-in-Ok
returns-in-Ok c = matched stream_view wrong_view c.stream_in.result _ _
    (read_all _ stream_options stream_in (line_view c.new-line.result) _ (ap options_view c.new-line.ensures.options) c.new-line.ensures.line c.in-Ok.ensures) c.stream_in.ensures
