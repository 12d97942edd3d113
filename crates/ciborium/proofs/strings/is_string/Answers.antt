use Rattle.std.proofs.Common.{refl}
use Rattle.ciborium.proofs.ReadHeads.{string_test}
use Rattle.ciborium.proofs.strings.is_string.Goals as goal

pub returns-then-text : goal.returns-then-text
returns-then-text g c = string_test _ _ _ c.args.decoder.now c.major.ensures (rw c.if-text.true refl)

pub returns-else-text : goal.returns-else-text
returns-else-text g c = string_test _ _ _ c.args.decoder.now c.major-else-text.ensures (rw c.if-text.false refl)
