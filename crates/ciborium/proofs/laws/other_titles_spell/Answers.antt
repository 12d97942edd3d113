use Rattle.ciborium.proofs.OtherTitles.{spells_too}
use Rattle.ciborium.proofs.laws.other_titles_spell.Goals as goal

pub returns : goal.returns
returns c = λ h a b rest t p q s. spells_too h a b rest p q t s
