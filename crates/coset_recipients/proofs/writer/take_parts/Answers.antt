use Rattle.std.proofs.Common.{sym, ap, ◌∙◌}
use Rattle.coset_headers.proofs.Empty.{empty_vec, full_vec}
use Rattle.coset_recipients.specs.Walks.{parts_of}
use Rattle.coset_recipients.proofs.Written.{wrote_three, wrote_four}
use Rattle.coset_recipients.proofs.writer.take_parts.Goals as goal

pub returns-then-is_empty : goal.returns-then-is_empty
returns-then-is_empty c =
    wrote_three (parts_of c.args.recipient.now) c.in_ok-items.items c.args.inner (sym (ap parts_of c.replace-taken.ensures.value) ∙ c.in_ok-items.ensures)
    (empty_vec c.args.inner _ c.is_empty.ensures c.if-is_empty.true)

pub returns : goal.returns
returns c =
    wrote_four (parts_of c.args.recipient.now) c.in_ok-items.items c.push.new.self c.args.inner (sym (ap parts_of c.replace-taken.ensures.value) ∙ c.in_ok-items.ensures)
    (full_vec c.args.inner _ c.is_empty.ensures c.if-is_empty.false) c.in_ok-push.ensures.items
