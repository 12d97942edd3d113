use Rattle.std.proofs.Common.{◌∙◌}
use Rattle.coset_headers.proofs.Written.{unsigned_by}
use Rattle.coset_headers.proofs.writer.is_unsigned.Goals as goal

pub returns : goal.returns
returns c = c.is_empty.ensures ∙ unsigned_by c.args.signatures.now
