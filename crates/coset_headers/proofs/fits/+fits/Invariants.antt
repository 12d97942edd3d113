use Rattle.std.proofs.Common.{take}
use Rattle.coset_headers.proofs.Fit.{Each, SignatureFits}
use Rattle.coset_headers.proofs.fits.+fits.Given as goal

abbrev pub invariant-signatures_fit-signatures : goal.invariant-signatures_fit-signatures
invariant-signatures_fit-signatures l = Each SignatureFits (take l.signature-index l.signatures)
