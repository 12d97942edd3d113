use Rattle.ciborium.proofs.Folded.{means_again, folded_again, is_assigned}
use Rattle.ciborium.proofs.laws.meanings_are_folded.Goals as goal

pub returns : goal.returns
returns c = record { means = means_again; folded = folded_again; assigned = is_assigned }
