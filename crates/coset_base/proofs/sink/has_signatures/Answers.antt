use Rattle.std.proofs.Common.{ap, ◌∙◌}
use Rattle.std.specs.Prelude.{not}
use Rattle.coset_headers.proofs.Written.{unsigned_by}
use Rattle.coset_base.proofs.sink.has_signatures.Goals as goal

pub returns : goal.returns
returns c = ap not (c.is_empty.ensures ∙ unsigned_by c.args.signatures.now)
