use Rattle.coset_labels.specs.Facts.Orders.{names_same}
use Rattle.coset_labels.specs.View.{registered_view}
use Rattle.coset_labels.proofs.Orders.{registered_by}
use Rattle.coset_labels.proofs.laws.registered_compare.Goals as goal

pub returns : goal.returns
returns g c =
    let o = c.orders_of_encodings.ensures in
    record {
      equality = names_same (registered_view g.T.EnumI64.number c.args.a.now) (registered_view g.T.EnumI64.number c.args.b.now);
      order = registered_by g.T.EnumI64.number c.args.a.now c.args.b.now (o.bytes _ _ (o.sized _ c.registered_fits.ensures) (o.sized _ c.registered_fits-2.ensures));
    }
