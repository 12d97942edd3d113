use Rattle.ciborium.proofs.Excludes.{excludes}
use Rattle.ciborium.proofs.laws.damage_is_no_front.Goals as goal

pub returns : goal.returns
returns c = λ stop limit b rest e v d f. excludes stop b limit e d v rest f
