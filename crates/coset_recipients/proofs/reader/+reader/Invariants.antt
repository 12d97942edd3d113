use Rattle.ciborium_value.specs.View.{view, views}
use Rattle.coset_labels.specs.Limits.{nesting_of, layers_of}
use Rattle.coset_headers.specs.Weight.{weight}
use Rattle.coset_recipients.specs.Shapes.{HasRecipients}
use Rattle.coset_recipients.specs.View.{recipients_view}
use Rattle.coset_recipients.proofs.reader.+reader.Given as goal

abbrev pub decreases-read_into : goal.decreases-read_into
decreases-read_into l = weight (view l.value)

abbrev pub decreases-read_recipients : goal.decreases-read_recipients
decreases-read_recipients l = weight (view l.value)

-- the items so far are the recipients so far
abbrev pub invariant-read_recipients-items : goal.invariant-read_recipients-items
invariant-read_recipients-items l = HasRecipients (nesting_of l.fn.limits) (views l.yielded) (recipients_view l.recipients.items) (layers_of l.fn.limits)
