-- Derived equality of keys is that of what they say.
use Rattle.std.proofs.Common.{◌≡◌, ap}
use Rattle.std.specs.Prelude.{IsTrue, ◌↔◌}
use Rattle.std.specs.Cmp.Lexicographic.{bytes_decides}
use Rattle.std.specs.Ordering.{on}
use Rattle.cose_iana.specs.Algorithms.{algorithm_number}
use Rattle.cose_iana.specs.Keys.{key_types, key_operations}
use Rattle.coset_labels.specs.Facts.Equal.{both, options, lists, by_name, by_names, entry_lists}
use Rattle.coset_labels.specs.Orders.{label_cmp}
use Rattle.coset_labels.specs.Facts.Orders.{labels_same}
use Rattle.coset_labels.specs.View.{label_view, registered_view, named_view}
use Rattle.coset_keys.specs.View.{key_view, key_set_view}
use Rattle.coset_keys.specs.declared.key.CoseKey.{CoseKey}
use Rattle.coset_keys.specs.declared.key.CoseKeySet.{CoseKeySet}
use Rattle.coset_keys.specs.contracts.key.CoseKeyPartialEq.TheImpl as equality
use Rattle.coset_keys.specs.contracts.key.CoseKeySetPartialEq.TheImpl as set_equality

pub keys : (a b : CoseKey) → IsTrue (equality.eq-value.it a b) ↔ (key_view a ≡ key_view b)
keys a b =
    let alg = named_view algorithm_number in
    let op = registered_view key_operations.number in
    let w = both _ _ (by_names (registered_view key_types.number) a.kty b.kty) (both _ _ (bytes_decides a.key_id.items b.key_id.items)
    (both _ _ (options (by_name alg) alg (by_names alg) a.alg b.alg) (both _ _ (lists (by_name op) op (by_names op) a.key_ops.keys b.key_ops.keys)
    (both _ _ (bytes_decides a.base_iv.items b.base_iv.items)
    (entry_lists (on label_view label_cmp) label_view (λ x y. labels_same (label_view x) (label_view y)) a.params.items b.params.items))))) in (
      λ h. let p = w.0 h in λ i. record { kty = p.0 i; key_id = p.1.0 i; alg = p.1.1.0 i; key_ops = p.1.1.1.0 i; base_iv = p.1.1.1.1.0 i; params = p.1.1.1.1.1 i },
      λ h. w.1 (ap (λ k. k.kty) h, (ap (λ k. k.key_id) h, (ap (λ k. k.alg) h, (ap (λ k. k.key_ops) h, (ap (λ k. k.base_iv) h, ap (λ k. k.params) h))))),
    )

pub sets : (a b : CoseKeySet) → IsTrue (set_equality.eq-value.it a b) ↔ (key_set_view a ≡ key_set_view b)
sets a b = lists equality.eq-value.it key_view keys a.0.items b.0.items
