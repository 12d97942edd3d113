use Rattle.std.proofs.Common.{◌≡◌, refl, sym, ap, Some}
use Rattle.std.specs.Ordering.{eq_by_cmp}
use Rattle.ciborium_value.specs.View.{view}
use Rattle.ciborium_value.specs.Canonical.{canonical, canonical_cmp}
use Rattle.ciborium_value.specs.Facts.Derived.{hashed_alike}
use Rattle.ciborium_value.specs.Facts.TextTotal.{canonical_same}
use Rattle.ciborium_value.proofs.TextOrder.{fits_sized, canonical_order}
use Rattle.ciborium_value.proofs.laws.canonical_values_compare.Goals as goal

pub returns : goal.returns
returns c =
    let a = c.args.a.now.0 in
    let b = c.args.b.now.0 in
    let o : canonical_cmp (view a) (view b) ≡ canonical (view a) (view b) = sym (canonical_order (view a) (view b) (fits_sized (view a) c.value_fits.ensures) (fits_sized (view b) c.value_fits-2.ensures)) in
    record {
      equality = canonical_same (view a) (view b) (eq_by_cmp canonical_cmp (view a) (view b)) refl;
      order = o;
      partial = ap Some o;
      hash = hashed_alike a b;
    }
