use Rattle.coset_labels.specs.Facts.Orders.{names_same}
use Rattle.coset_labels.specs.View.{named_view}
use Rattle.coset_labels.proofs.Orders.{names_by}
use Rattle.coset_labels.proofs.laws.names_compare.Goals as goal

pub returns : goal.returns
returns g c =
    let o = c.orders_of_encodings.ensures in
    record {
      equality = names_same (named_view g.T.EnumI64.number c.args.a.now) (named_view g.T.EnumI64.number c.args.b.now);
      order = names_by (named_view g.T.EnumI64.number c.args.a.now) (named_view g.T.EnumI64.number c.args.b.now) (o.bytes _ _ (o.sized _ c.name_fits.ensures) (o.sized _ c.name_fits-2.ensures));
    }
