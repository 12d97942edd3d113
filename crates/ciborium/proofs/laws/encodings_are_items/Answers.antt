use Rattle.ciborium.proofs.Sequence.{encoding_item_within}
use Rattle.ciborium.proofs.laws.encodings_are_items.Goals as goal

pub returns : goal.returns
returns c = encoding_item_within
