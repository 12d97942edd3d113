use Rattle.ciborium_value.proofs.Wide.{number_kept, number_folded}
use Rattle.ciborium_value.proofs.laws.numbers_are_kept.Goals as goal

pub returns : goal.returns
returns c = record { number = number_kept; folded = number_folded }
