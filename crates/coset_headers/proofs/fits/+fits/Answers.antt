use Rattle.std.proofs.Common.{subst, take_all, arith}
use Rattle.coset_headers.proofs.Fit.{Each, SignatureFits, each_taken, header_fit, unsent_fit, signature_fit_by, signatures_fit, signatures_count}
use Rattle.coset_headers.proofs.fits.+fits.Goals as goal

pub header_fits-returns : goal.header_fits-returns
header_fits-returns t c = λ u.
    header_fit c.args.header.now u _ c.deref.ensures.value c.fields_fit.ensures.values c.fields_fit.ensures.rest c.fields_fit.ensures.count
    c.signatures_fit.ensures.fits c.signatures_fit.ensures.count

pub protected_fits-returns-in-None : goal.protected_fits-returns-in-None
protected_fits-returns-in-None t c = λ b. unsent_fit c.args.protected.now b c.in-None.is c.header_fits.ensures

pub signature_fits-returns : goal.signature_fits-returns
signature_fits-returns t c = λ u. signature_fit_by c.args.signature.now _ u c.protected_fits.ensures c.header_fits.ensures c.deref.ensures.value c.bytes_fit.ensures

pub signatures_fit-signatures-preserved : goal.signatures_fit-signatures-preserved
signatures_fit-signatures-preserved t c = each_taken SignatureFits c.args.signatures.now c.signatures.signature-index c.signature-item.result c.signatures-test.true c.signature-item.is c.signatures.invariant c.signature_fits.ensures

pub signatures_fit-returns-clause-fits : goal.signatures_fit-returns-clause-fits
signatures_fit-returns-clause-fits t c = λ ts. signatures_fit c.args.signatures.now ts (subst (Each SignatureFits) (take_all c.signatures.signature-index c.args.signatures.now c.signatures-test.false) c.signatures.invariant)

pub signatures_fit-returns-clause-count : goal.signatures_fit-returns-clause-count
signatures_fit-returns-clause-count t c = λ ts e. let h = signatures_count c.args.signatures.now ts e in omega (arith, h)
