use Rattle.std.proofs.Common.{◌∙◌, Some, ap}
use Rattle.ciborium_value.specs.Facts.Derived.{derived_is, equal_is, hashed_alike}
use Rattle.ciborium_value.specs.contracts.value.ValueOrd.TheImpl.Laws as order_laws
use Rattle.ciborium_value.proofs.laws.values_compare.Goals as goal

pub returns : goal.returns
returns c =
    let a = c.args.a.now in
    let b = c.args.b.now in
    record { equality = equal_is a b; order = derived_is a b; partial = order_laws.matches_partial_cmp-law a b ∙ ap Some (derived_is a b); hash = hashed_alike a b }
