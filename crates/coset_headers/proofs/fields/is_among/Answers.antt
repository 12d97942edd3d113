use Rattle.std.proofs.Common.{ap, sym, ◌∙◌}
use Rattle.coset_labels.specs.Facts.Orders.{labels_same}
use Rattle.coset_labels.specs.View.{label_view}
use Rattle.coset_headers.proofs.Fresh.{among_here, among_more, differs}
use Rattle.coset_headers.proofs.fields.is_among.Goals as goal

pub returns-then-eq : goal.returns-then-eq
returns-then-eq c =
    let same = (labels_same (label_view c.entry-item.result.0) (label_view c.args.label.now)).0 (sym c.eq.ensures ∙ c.if-eq.true) in
    among_here (label_view c.args.label.now) c.args.entries.now c.entries.entry-index c.entry-item.result c.entries-test.true (sym same ∙ ap (λ z. label_view z.0) c.entry-item.is)

pub entries-preserved : goal.entries-preserved
entries-preserved c =
    among_more (label_view c.args.label.now) c.args.entries.now c.entries.entry-index c.entry-item.result c.entries-test.true c.entries.invariant
    (λ q. differs (label_view c.entry-item.result.0) (label_view c.args.label.now) (sym c.eq.ensures ∙ c.if-eq.false) (sym (q ∙ sym (ap (λ z. label_view z.0) c.entry-item.is))))
