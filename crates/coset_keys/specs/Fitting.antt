-- Names and keys whose numbers, texts and lengths are those that encodings can have.
use Rattle.std.specs.Prelude.{◌≡◌, List, [], ◌∷◌, Option, Some, None}
use Rattle.ciborium_value.specs.Encoding.{Fits}
use Rattle.ciborium_value.specs.Tree.{Tree}
use Rattle.coset_labels.specs.Fields.{Named}
use Rattle.coset_labels.specs.Labels.{named_tree}
use Rattle.coset_keys.specs.Fields.{KeyFields}
use Rattle.coset_keys.specs.Written.{key_tree}

abbrev pub NameFits : Option Named → Type 0
NameFits None = Unit {0}
NameFits (Some n) = Fits (named_tree n)

abbrev pub NamesFit : List Named → Type 0
NamesFit [] = Unit {0}
NamesFit (n ∷ ns) = Fits (named_tree n) × NamesFit ns

-- each key that can be written fits heads
abbrev pub KeysFit : List KeyFields → Type 0
KeysFit [] = Unit {0}
KeysFit (k ∷ ks) = ((t : Tree) → key_tree k ≡ Some t → Fits t) × KeysFit ks
