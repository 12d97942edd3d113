-- What a reader shows that goes through the items of a list or the entries of a map. `read` says
-- which key a value is.
use Rattle.std.specs.Prelude.{◌≡◌, List, [], ◌∷◌, ◌++◌, Option, Some}
use Rattle.ciborium_value.specs.Tree.{Tree, Trees, Pairs}
use Rattle.ciborium_value.specs.View.{trees, pairs}
use Rattle.coset_labels.specs.Entries.{entries}
use Rattle.coset_labels.specs.Faults.{CoseFault}
use Rattle.coset_labels.specs.declared.seen_labels.SeenLabels.{SeenLabels}

-- one of the items has a fault
pub record WrongItems (Wrong : Tree → CoseFault → Type 0) (ts : Trees) (e : CoseFault) : Type 0 where
  pub before : List Tree
  pub after : List Tree
  pub tree : Tree
  pub are : ts ≡ trees (before ++ tree ∷ after)
  pub wrong : Wrong tree e

-- one of the entries has a fault after those before it, which have keys
pub record WrongEntries {K : Type 0} (read : Tree → Option K)
    (Wrong : List (K × Tree) → Tree → Tree → CoseFault → Type 0) (ps : Pairs) (e : CoseFault) : Type 0 where
  pub before : List (Tree × Tree)
  pub after : List (Tree × Tree)
  pub key : Tree
  pub value : Tree
  pub es : List (K × Tree)
  pub are : ps ≡ pairs (before ++ (key, value) ∷ after)
  pub read_before : entries read (pairs before) ≡ Some es
  pub wrong : Wrong es key value e

-- all entries have keys, and this is known of them
pub record HasEntries {K : Type 0} (read : Tree → Option K)
    (Known : List (K × Tree) → Type 0) (ps : Pairs) : Type 0 where
  pub es : List (K × Tree)
  pub entries_are : entries read ps ≡ Some es
  pub known : Known es

-- the keys of these entries, and no others, were seen, and so much is known of them and of what
-- they have given
pub record KnownIn {K L H : Type 0} (Sees : SeenLabels K → List (L × Tree) → Type 0)
    (Known : List (L × Tree) → H → Type 0) (es : List (L × Tree)) (s : SeenLabels K) (given : H) : Type 0 where
  pub sees : Sees s es
  pub known : Known es given

-- one more entry is read
pub record Added {K L H : Type 0} (read : Tree → Option L) (Sees : SeenLabels K → List (L × Tree) → Type 0)
    (Known : List (L × Tree) → H → Type 0) (es : List (L × Tree)) (l v : Tree) (s : SeenLabels K) (given : H) : Type 0 where
  pub key : L
  pub is : read l ≡ Some key
  pub known : KnownIn Sees Known (es ++ (key, v) ∷ []) s given
