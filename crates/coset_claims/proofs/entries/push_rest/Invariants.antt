use Rattle.std.proofs.Common.{◌≡◌, List, ◌++◌, map}
use Rattle.cose_iana.specs.declared.claims.CwtClaimName.{CwtClaimName}
use Rattle.ciborium_value.specs.View.{view_pair}
use Rattle.ciborium_value.specs.declared.value.Value.{Value}
use Rattle.coset_labels.specs.declared.registered.RegisteredLabelWithPrivate.{RegisteredLabelWithPrivate}
use Rattle.coset_claims.specs.View.{entry_view}
use Rattle.coset_claims.specs.Written.{entry_tree}
use Rattle.coset_claims.proofs.entries.push_rest.Given as goal

abbrev pub invariant-rest : goal.invariant-rest
invariant-rest l = record {
  front : (after : List (RegisteredLabelWithPrivate CwtClaimName × Value)) × (l.fn.rest.items ≡ l.yielded ++ after);
  done : map view_pair l.entries.items ≡ map view_pair l.fn.entries.items ++ map entry_tree (map entry_view l.yielded);
}
