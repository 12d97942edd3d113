use Rattle.ciborium.proofs.Agreeing.{encoding_means, negative_means}
use Rattle.ciborium.proofs.laws.encodings_mean.Goals as goal

pub returns : goal.returns
returns c = record { folded = encoding_means; negative = negative_means }
