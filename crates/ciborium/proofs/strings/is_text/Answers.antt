use Rattle.std.proofs.Common.{rules}
use Rattle.ciborium.proofs.strings.is_text.Goals as goal

pub returns-then-is_ascii : goal.returns-then-is_ascii
returns-then-is_ascii c = c.is_ascii.ensures (search rules)
