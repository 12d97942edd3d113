use Rattle.std.proofs.Common.{subst, take_all, arith}
use Rattle.coset_headers.proofs.Fit.{Each, each_taken}
use Rattle.coset_recipients.proofs.Fit.{RecipientFits, recipient_fit, all_fit, all_count}
use Rattle.coset_recipients.proofs.laws.+fits.Goals as goal

pub recipient_fits-returns : goal.recipient_fits-returns
recipient_fits-returns t c = λ u e s.
    recipient_fit c.args.recipient.now _ u c.deref.ensures.value c.parts_fit.ensures c.all_fit.ensures.fits c.all_fit.ensures.count e s

pub all_fit-recipients-preserved : goal.all_fit-recipients-preserved
all_fit-recipients-preserved t c =
    each_taken RecipientFits c.args.recipients.now c.recipients.recipient-index c.recipient-item.result c.recipients-test.true c.recipient-item.is c.recipients.invariant c.recipient_fits.ensures

pub all_fit-returns-clause-fits : goal.all_fit-returns-clause-fits
all_fit-returns-clause-fits t c = λ ts.
    all_fit c.args.recipients.now ts (subst (Each RecipientFits) (take_all c.recipients.recipient-index c.args.recipients.now c.recipients-test.false) c.recipients.invariant)

pub all_fit-returns-clause-count : goal.all_fit-returns-clause-count
all_fit-returns-clause-count t c = λ ts e. let h = all_count c.args.recipients.now ts e in omega (arith, h)
