use Rattle.std.proofs.Common.{◌≡◌, ◌++◌, map, take}
use Rattle.coset_headers.specs.View.{signature_view}
use Rattle.coset_headers.proofs.copies.+copies.Given as goal

abbrev pub invariant-signatures : goal.invariant-signatures
invariant-signatures l = map signature_view l.copies.items ≡ map signature_view l.fn.copies.items ++ map signature_view (take l.signature-index l.signatures)
