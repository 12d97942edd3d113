use Rattle.std.proofs.Common.{◌≡◌, ◌++◌, map, take}
use Rattle.coset_recipients.specs.View.{recipient_view}
use Rattle.coset_recipients.proofs.copies.+copy_recipients.Given as goal

-- those before, and then copies of the recipients so far
abbrev pub invariant-recipients : goal.invariant-recipients
invariant-recipients l = map recipient_view l.copies.items ≡ map recipient_view l.initial.copies.items ++ map recipient_view (take l.recipient-index l.recipients)
