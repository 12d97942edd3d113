use Rattle.std.proofs.Common.{◌≡◌, map, false, true, ap, ◌∙◌}
use Rattle.coset_recipients.specs.View.{recipient_view}
use Rattle.coset_recipients.proofs.Copied.{copied_inside, last_is, copied_more, not_empty}
use Rattle.coset_recipients.proofs.copies.+copy_recipients.Goals as goal
use Rattle.coset_recipients.proofs.copies.+copy_recipients.Goals.{in-Some+in_ok-copy_recipients, in_default}

pub recipients-preserved : goal.recipients-preserved
recipients-preserved t c =
    let p = c.in_ok-push_plain.ensures in
    elim c.match-last_mut.branch [
      | in-Some+in_ok-copy_recipients w ↦
          let k = last_is c.push_plain.new.copies _ _ _ p.1 w.in-Some.ensures.value in
          let y = copied_inside w.in-Some.copy.now c.recipient-item.result _ w.copy_recipients.new.copies (ap recipient_view k ∙ p.2) w.deref.ensures.value w.in_ok-copy_recipients.ensures in
          ap (λ v. map recipient_view v.items) w.copies-is ∙ copied_more c.args.recipients.now _ _ c.push_plain.new.copies _ _ _ c.recipients.recipient-index c.recipients-test.true c.recipient-item.is p.1 y c.recipients.invariant
      | in_default w ↦ let e : false ≡ true = w.in_default.ensures.variant.1 (not_empty c.push_plain.new.copies _ _ p.1) in cc
    ]
