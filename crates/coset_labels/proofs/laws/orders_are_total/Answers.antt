use Rattle.coset_labels.specs.Facts.Orders.{label_total, length_first_total, named_total, label_tied, named_tied}
use Rattle.coset_labels.proofs.laws.orders_are_total.Goals as goal

pub returns : goal.returns
returns c = record { labels = label_total; length_first = length_first_total; names = named_total; labels_tie = label_tied; names_tie = named_tied }
