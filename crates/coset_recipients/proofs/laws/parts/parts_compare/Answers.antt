use Rattle.coset_recipients.proofs.PartsEqual.{same_parts}
use Rattle.coset_recipients.proofs.laws.parts.parts_compare.Goals as goal

pub returns : goal.returns
returns c = same_parts c.args.a.now c.args.b.now
