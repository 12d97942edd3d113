use Rattle.std.proofs.Common.{subst, take_all, arith}
use Rattle.coset_headers.proofs.Fit.{Each, SignatureFits, each_taken}
use Rattle.coset_signed.proofs.Fit.{list_fit, list_count}
use Rattle.coset_signed.proofs.laws.signatures_fit.Goals as goal

pub signatures-preserved : goal.signatures-preserved
signatures-preserved c =
    each_taken SignatureFits c.args.signatures.now c.signatures.signature-index c.signature-item.result c.signatures-test.true c.signature-item.is c.signatures.invariant c.signature_fits.ensures

pub returns : goal.returns
returns c = λ ts e s.
    let all = subst (Each SignatureFits) (take_all c.signatures.signature-index c.args.signatures.now c.signatures-test.false) c.signatures.invariant in
    let h = list_count c.args.signatures.now ts e in
    (omega (arith, h), list_fit c.args.signatures.now ts all e s)
