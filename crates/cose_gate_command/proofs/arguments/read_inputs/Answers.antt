use Rattle.std.proofs.Common.{◌≡◌, ◌∙◌, ap, sym, Some, codes, option_copied}
use Rattle.cose_gate_command.specs.Arguments.{by_either, inputs_view}
use Rattle.cose_gate_command.specs.CommandLine.{line_view, wrong_view, others, value_of}
use Rattle.cose_gate_command.proofs.Reading.{matched}
use Rattle.cose_gate_command.proofs.arguments.read_inputs.Goals as goal

pub returns-in-Some : goal.returns-in-Some
returns-in-Some c =
    let l = line_view c.args.line in
    let given : Some c.in-Some.keys.now ≡ value_of c.args.option.now l = ap option_copied (sym c.in-Some.is) ∙ c.value.ensures in
    matched inputs_view wrong_view c.by_name.result _ _ (λ i. by_either c.args.missing.now (given i) (c.value-aad.ensures i) (others l)) c.by_name.ensures
