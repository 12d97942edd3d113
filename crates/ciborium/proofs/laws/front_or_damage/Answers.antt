use Rattle.ciborium.proofs.ItemCases.{front_or_fault}
use Rattle.ciborium.proofs.laws.front_or_damage.Goals as goal

pub returns : goal.returns
returns c = front_or_fault
