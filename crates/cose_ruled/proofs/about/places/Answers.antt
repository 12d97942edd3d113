use Rattle.std.proofs.Common.{◌≡◌, ◌+◌, ◌∷◌, ◌++◌, [], length, map, take, arith}
use Rattle.std.proofs.lemmas.Grind.{common_steps}
use Rattle.std.proofs.lemmas.List.{length-map, length-take}
use Rattle.coset_keys.specs.View.{key_view}
use Rattle.cose_ruled.proofs.Placed.{placed_more}
use Rattle.cose_ruled.proofs.about.places.Goals as goal

pub loop-place-preserved : goal.loop-place-preserved
loop-place-preserved c =
    let keys = c.args.keys.now in
    let n = c.loop-place.place in
    let key = key_view c.index-keys-place.result in
    let next : map key_view (take (n + 1) keys) ≡ map key_view (take n keys) ++ key ∷ [] = grind (arith, common_steps) in
    let at : n ≡ length (map key_view (take n keys)) = simp (length-map, length-take) (omega arith) in
    placed_more c.args.scheme c.args.id.now (map key_view (take n keys)) (map key_view (take (n + 1) keys)) key n c.loop-place.places.items
    c.append_place.new.places.items at next c.loop-place.invariant c.in_ok-append_place.ensures
