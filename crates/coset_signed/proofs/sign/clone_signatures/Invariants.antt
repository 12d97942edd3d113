use Rattle.std.proofs.Common.{◌≡◌, map, take}
use Rattle.coset_headers.specs.View.{signature_view}
use Rattle.coset_signed.proofs.sign.clone_signatures.Given as goal

abbrev pub invariant-loop-signature : goal.invariant-loop-signature
invariant-loop-signature l = map signature_view l.copies.items ≡ map signature_view (take l.signature-index l.signatures)
