use Rattle.std.proofs.Common.{ap, map, ◌∙◌}
use Rattle.cose_iana.specs.Keys.{key_operations}
use Rattle.coset_labels.specs.Orders.{named_cmp}
use Rattle.coset_labels.specs.View.{registered_view}
use Rattle.coset_keys.specs.Builders.{so_far}
use Rattle.coset_keys.proofs.Rising.{map_inserted}
use Rattle.coset_keys.proofs.builder.CoseKeyBuilder.add_key_op.Goals as goal

pub returns : goal.returns
returns c = ap (λ z. record (so_far c.args.self) { key_ops = z }) (ap (map (registered_view key_operations.number)) c.in_ok-insert.ensures.keys ∙ map_inserted (registered_view key_operations.number) named_cmp _ c.args.self.key.key_ops.keys)
