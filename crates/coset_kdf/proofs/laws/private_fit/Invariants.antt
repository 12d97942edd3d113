use Rattle.std.proofs.Common.{map, take}
use Rattle.ciborium_value.specs.Tree.{bytes}
use Rattle.ciborium_value.specs.Encoding.{FitAll}
use Rattle.ciborium_value.specs.View.{trees}
use Rattle.coset_kdf.proofs.laws.private_fit.Given as goal

abbrev pub invariant-private : goal.invariant-private
invariant-private l = FitAll (trees (map bytes (map (λ v. v.items) (take l.content-index l.private))))
