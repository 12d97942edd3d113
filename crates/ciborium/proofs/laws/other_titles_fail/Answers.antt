use Rattle.std.proofs.Common.{◌++◌, refl}
use Rattle.ciborium.proofs.OtherDamage.{damage_too}
use Rattle.ciborium.proofs.laws.other_titles_fail.Goals as goal

pub returns : goal.returns
returns c = λ h a b rest stop limit f p q fits d. damage_too h a b rest p q stop fits (a ++ rest) limit f refl d
