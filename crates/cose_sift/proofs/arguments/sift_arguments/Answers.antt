use Rattle.std.proofs.Common.{ap}
use Rattle.cose_gate_command.specs.CommandLine.{line_view, wrong_view, options_view}
use Rattle.cose_gate_command.proofs.Reading.{matched, read_all}
use Rattle.cose_sift.specs.Arguments.{sift_in, sift_options, sift_view}
use Rattle.cose_sift.proofs.arguments.sift_arguments.Goals as goal

pub returns-in-Ok : goal.returns-in-Ok
returns-in-Ok c = matched sift_view wrong_view c.sift_in.result _ _
    (read_all _ sift_options sift_in (line_view c.new-line.result) _ (ap options_view c.new-line.ensures.options) c.new-line.ensures.line c.in-Ok.ensures) c.sift_in.ensures
