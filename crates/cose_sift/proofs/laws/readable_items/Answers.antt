use Rattle.cose_sift.proofs.Readable.{spelled}
use Rattle.cose_sift.proofs.laws.readable_items.Goals as goal

pub returns : goal.returns
returns c = λ b limit v r. spelled r.tree b r.spells
