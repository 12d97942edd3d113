use Rattle.ciborium.proofs.FreeTags.{free_is}
use Rattle.ciborium.proofs.laws.free_tags.Goals as goal

pub returns : goal.returns
returns c = free_is
