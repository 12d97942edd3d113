use Rattle.std.proofs.Common.{sym, ap, ◌∙◌}
use Rattle.std.proofs.lemmas.Cmp.{tied_itself}
use Rattle.ciborium_value.specs.Canonical.{bytewise}
use Rattle.ciborium_value.specs.Facts.Orders.{then_tied}
use Rattle.coset_labels.specs.Labels.{label_tree}
use Rattle.coset_labels.specs.Orders.{label_length_first}
use Rattle.coset_labels.specs.Facts.Orders.{length_first_total, labels_same, label_tied}
use Rattle.coset_labels.specs.View.{label_view}
use Rattle.coset_labels.proofs.laws.labels_compare.Goals as goal

pub returns : goal.returns
returns c =
    let o = c.orders_of_encodings.ensures in
    let a = label_view c.args.a.now in
    let b = label_view c.args.b.now in
    let by = o.bytes (label_tree a) (label_tree b) (o.sized _ c.label_fits.ensures) (o.sized _ c.label_fits-2.ensures) in
    record {
      equality = labels_same a b;
      order = sym by;
      length_first = (
        λ h. label_tied a b (sym by ∙ (then_tied _ (bytewise (label_tree a) (label_tree b)) h).1),
        λ h. ap (λ z. label_length_first z b) h ∙ tied_itself length_first_total b,
      );
    }
