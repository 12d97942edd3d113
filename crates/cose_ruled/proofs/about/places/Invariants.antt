use Rattle.std.proofs.Common.{◌≡◌, map, flat_map, take}
use Rattle.coset_keys.specs.View.{key_view}
use Rattle.cose_gate_records.specs.Framing.{eight}
use Rattle.cose_ruled.specs.Blocks as spec
use Rattle.cose_ruled.proofs.about.places.Given as goal

abbrev pub invariant-loop-place : goal.invariant-loop-place
invariant-loop-place l =
    l.places.items ≡ flat_map eight (spec.places l.scheme l.id (map key_view (take l.place l.keys)))
