-- The fields that keys of the code have.
use Rattle.std.specs.Prelude.{List, map, option_map}
use Rattle.cose_iana.specs.Algorithms.{algorithm_number}
use Rattle.cose_iana.specs.Keys.{key_types, key_operations}
use Rattle.coset_labels.specs.View.{registered_view, named_view}
use Rattle.coset_headers.specs.View.{entry_view}
use Rattle.coset_keys.specs.Fields.{KeyFields}
use Rattle.coset_keys.specs.declared.key.CoseKey.{CoseKey}
use Rattle.coset_keys.specs.declared.key.CoseKeySet.{CoseKeySet}
use Rattle.coset_keys.specs.declared.sec1.Point.{Point as PointRef}
use Rattle.coset_keys.specs.declared.sec1.Point.TheVariants as code
use Rattle.coset_keys.specs.Points.{Point, signed, both}

abbrev pub key_view : CoseKey → KeyFields
key_view k = record {
  kty = registered_view key_types.number k.kty;
  key_id = k.key_id.items;
  alg = option_map (named_view algorithm_number) k.alg;
  key_ops = map (registered_view key_operations.number) k.key_ops.keys;
  base_iv = k.base_iv.items;
  params = map entry_view k.params.items;
}

abbrev pub key_set_view : CoseKeySet → List KeyFields
key_set_view s = map key_view s.0.items

abbrev pub point_view : PointRef → Point
point_view (code.Signed x s) = signed x.now s
point_view (code.Both x y) = both x.now y.now
