use Rattle.std.proofs.Common.{◌≡◌, map, take}
use Rattle.coset_kdf.proofs.copies.clone_private.Given as goal

abbrev pub invariant-loop-bytes : goal.invariant-loop-bytes
invariant-loop-bytes l = map (λ v. v.items) l.copies.items ≡ map (λ v. v.items) (take l.bytes-index l.private)
