use Rattle.std.proofs.Common.{map, take}
use Rattle.coset_keys.specs.Fitting.{KeysFit}
use Rattle.coset_keys.specs.View.{key_view}
use Rattle.coset_keys.proofs.laws.keys_fit.Given as goal

abbrev pub invariant-keys : goal.invariant-keys
invariant-keys l = KeysFit (map key_view (take l.key-index l.keys))
