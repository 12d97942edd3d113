use Rattle.std.proofs.Common.{sym, ◌∙◌}
use Rattle.ciborium_value.specs.View.{views}
use Rattle.coset_headers.proofs.Steps.{bare_by}
use Rattle.coset_headers.proofs.values.is_bare.Goals as goal

pub returns-then-is_one_signature : goal.returns-then-is_one_signature
returns-then-is_one_signature c = bare_by (views c.args.items.now) (sym c.is_one_signature.ensures ∙ c.if-is_one_signature.true)
