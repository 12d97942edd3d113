-- What a name says as it is compared, and the names that are there if none is given.
use Rattle.cose_iana.specs.declared.algorithm.Algorithm.{Algorithm}
use Rattle.cose_iana.specs.declared.algorithm.Algorithm.TheVariants as algorithm
use Rattle.cose_iana.specs.declared.keys.KeyType.{KeyType}
use Rattle.cose_iana.specs.declared.keys.KeyType.TheVariants as key_type
use Rattle.coset_labels.specs.Fields.{Named, private_use, assigned, named}
use Rattle.coset_labels.specs.declared.registered.Name.{Name}
use Rattle.coset_labels.specs.declared.registered.Name.TheVariants as name
use Rattle.coset_labels.specs.declared.registered.RegisteredLabel.{RegisteredLabel}
use Rattle.coset_labels.specs.declared.registered.RegisteredLabel.TheVariants as registered
use Rattle.coset_labels.specs.declared.registered.RegisteredLabelWithPrivate.{RegisteredLabelWithPrivate}
use Rattle.coset_labels.specs.declared.registered.RegisteredLabelWithPrivate.TheVariants as open_name

abbrev pub name_view : Name → Named
name_view (name.PrivateUse i) = private_use i
name_view (name.Assigned i) = assigned i
name_view (name.Text s) = named s.now

abbrev pub reserved_algorithm : RegisteredLabelWithPrivate Algorithm
reserved_algorithm = open_name.Assigned algorithm.Reserved

abbrev pub reserved_key_type : RegisteredLabel KeyType
reserved_key_type = registered.Assigned key_type.Reserved
