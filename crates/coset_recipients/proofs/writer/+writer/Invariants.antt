use Rattle.std.proofs.Common.{◌≡◌, map, take, Some}
use Rattle.ciborium_value.specs.View.{view}
use Rattle.coset_labels.specs.Arrays.{all_written}
use Rattle.coset_recipients.specs.View.{recipient_view}
use Rattle.coset_recipients.specs.Written.{recipient_tree}
use Rattle.coset_recipients.proofs.writer.+writer.Given as goal

-- those that come later are as they were, and those before are written
abbrev pub invariant-take_recipients-recipients : goal.invariant-take_recipients-recipients
invariant-take_recipients-recipients l = goal.unvisited-take_recipients-recipients l
    × (all_written recipient_tree (map recipient_view (take l.recipient-index l.fn.recipients)) ≡ Some (map view l.values.items))
