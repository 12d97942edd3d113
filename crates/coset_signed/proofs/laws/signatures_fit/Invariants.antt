use Rattle.std.proofs.Common.{take}
use Rattle.coset_headers.proofs.Fit.{Each, SignatureFits}
use Rattle.coset_signed.proofs.laws.signatures_fit.Given as goal

abbrev pub invariant-signatures : goal.invariant-signatures
invariant-signatures l = Each SignatureFits (take l.signature-index l.signatures)
