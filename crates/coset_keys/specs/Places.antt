-- The place in a key that a label names.
use Rattle.std.specs.Prelude.{◌≡◌, pos, false}
use Rattle.coset_labels.specs.Fields.{LabelFields, number}
use Rattle.coset_keys.specs.Keys.{is_own}
use Rattle.coset_keys.specs.declared.values.Place.{Place}
use Rattle.coset_keys.specs.declared.values.Place.TheVariants as place

abbrev pub Names : Place → LabelFields → Type 0
Names place.Kty l = l ≡ number (pos 1)
Names place.KeyId l = l ≡ number (pos 2)
Names place.Alg l = l ≡ number (pos 3)
Names place.KeyOps l = l ≡ number (pos 4)
Names place.BaseIv l = l ≡ number (pos 5)
Names place.Params l = is_own l ≡ false
