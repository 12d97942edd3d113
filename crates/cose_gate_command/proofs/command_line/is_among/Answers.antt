use Rattle.std.proofs.Common.{◌∙◌, sym}
use Rattle.std.specs.Prelude.{bytes_eq}
use Rattle.cose_gate_command.proofs.FirstWord.{any_map}
use Rattle.cose_gate_command.proofs.command_line.is_among.Goals as goal

pub returns : goal.returns
returns c = c.equals_any.ensures ∙ sym (any_map (λ w. bytes_eq c.args.word.now w) (λ w. w.now) c.args.options.now)
