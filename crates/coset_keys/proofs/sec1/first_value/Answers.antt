use Rattle.std.proofs.Common.{◌≡◌, map, take_all, None, sym, subst, ◌∙◌}
use Rattle.coset_labels.specs.View.{label_view}
use Rattle.coset_headers.specs.View.{entry_view}
use Rattle.coset_keys.specs.Points.{first_at}
use Rattle.coset_keys.proofs.Coordinates.{found_at, later_at}
use Rattle.coset_keys.proofs.sec1.first_value.Goals as goal

pub returns-then-eq : goal.returns-then-eq
returns-then-eq c = found_at _ c.args.params.now c.entries.entry-index c.entry-item.result c.entry-item.result c.entries-test.true c.entries.invariant c.entry-item.is (sym c.eq.ensures ∙ c.if-eq.true)

pub entries-preserved : goal.entries-preserved
entries-preserved c = later_at _ c.args.params.now c.entries.entry-index c.entry-item.result c.entry-item.result c.entries-test.true c.entries.invariant c.entry-item.is (sym c.eq.ensures ∙ c.if-eq.false)

pub returns : goal.returns
returns c = sym (subst (λ z. first_at (label_view c.args.label.now) (map entry_view z) ≡ None) (take_all c.entries.entry-index c.args.params.now c.entries-test.false) c.entries.invariant)
