use Rattle.std.proofs.Common.{take}
use Rattle.coset_headers.proofs.Fit.{Each}
use Rattle.coset_recipients.proofs.Fit.{RecipientFits}
use Rattle.coset_recipients.proofs.laws.+fits.Given as goal

abbrev pub invariant-all_fit-recipients : goal.invariant-all_fit-recipients
invariant-all_fit-recipients l = Each RecipientFits (take l.recipient-index l.recipients)
