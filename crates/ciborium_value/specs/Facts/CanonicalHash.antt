-- Values with one encoding hash alike.
use Rattle.std.proofs.Common.{◌≡◌, refl}
use Rattle.std.specs.Prelude.{IsTrue}
use Rattle.std.specs.Ordering.{eq_by_cmp}
use Rattle.ciborium_value.specs.View.{view}
use Rattle.ciborium_value.specs.Canonical.{canonical_cmp}
use Rattle.ciborium_value.specs.declared.value.Value.{Value}
use Rattle.ciborium_value.specs.contracts.value.ValueHash.TheImpl as hashes
use Rattle.ciborium_value.specs.Facts.Derived.{hashed_alike}
use Rattle.ciborium_value.specs.Facts.TextTotal.{canonical_same}

pub hashed_by_canonical : (a b : Value) → IsTrue (eq_by_cmp canonical_cmp (view a) (view b)) → hashes.hash_input-value.it a ≡ hashes.hash_input-value.it b
hashed_by_canonical a b e = hashed_alike a b ((canonical_same (view a) (view b) (eq_by_cmp canonical_cmp (view a) (view b)) refl).0 e)
