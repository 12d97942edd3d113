use Rattle.std.proofs.Common.{◌≡◌, map, take}
use Rattle.coset_keys.specs.View.{key_view}
use Rattle.coset_keys.proofs.copies.clone_keys.Given as goal

abbrev pub invariant-loop-key : goal.invariant-loop-key
invariant-loop-key l = map key_view l.copies.items ≡ map key_view (take l.key-index l.keys)
