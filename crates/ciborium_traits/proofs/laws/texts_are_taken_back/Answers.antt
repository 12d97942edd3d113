use Rattle.ciborium_traits.specs.Facts.Texts.{character_kept}
use Rattle.ciborium_traits.proofs.laws.texts_are_taken_back.Goals as goal

pub returns-clause-characters : goal.returns-clause-characters
returns-clause-characters c = character_kept
