use Rattle.std.proofs.Common.{ap, sym, ◌∙◌}
use Rattle.std.specs.Prelude.{option_copied}
use Rattle.cose_ruled.proofs.Tokens.{of_last, bytes_of_last}
use Rattle.cose_ruled.proofs.token.last_bytes.Goals as goal

pub returns-in-Some : goal.returns-in-Some
returns-in-Some c =
    c.bytes_of.ensures ∙ sym (bytes_of_last c.args.values.now ∙ ap of_last (sym c.last.ensures.value ∙ ap option_copied c.in-Some.is))
