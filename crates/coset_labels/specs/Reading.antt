-- Bytes that are one item, and nothing after it.
use Rattle.std.specs.Prelude.{◌≡◌, ◌≢◌, ℕ, false, List, [], length}
use Rattle.ciborium_value.specs.Tree.{Tree, tag}
use Rattle.ciborium.specs.Front.{Reads, Front}
use Rattle.ciborium.specs.Damage.{Fault, Damage}
use Rattle.ciborium.specs.Items.{nesting}
use Rattle.coset_labels.specs.Faults.{CoseFault, undecodable, extraneous, unexpected}
use Rattle.ciborium_value.specs.Kinds.{is_tag}

-- bytes that are not one readable item: damaged, or going on after it
pub data NotReadable (b : List ℕ) (limit : ℕ) : CoseFault → Type 0 where
  damaged : (f : Fault) → Damage (length b) b limit f → NotReadable b limit (undecodable f)
  goes_on : (v : Tree) (rest : List ℕ) → Front b limit v rest → rest ≢ [] → NotReadable b limit extraneous

-- the bytes are one item that has these fields
pub record HasItem {F : Type 0} (Shape : Tree → F → Type 0) (b : List ℕ) (f : F) : Type 0 where
  pub tree : Tree
  pub reads : Reads b nesting tree
  pub shape : Shape tree f

-- the bytes are not one readable item, or their item has a fault
pub data WrongItem (Wrong : Tree → CoseFault → Type 0) (b : List ℕ) (e : CoseFault) : Type 0 where
  unreadable : NotReadable b nesting e → WrongItem Wrong b e
  inside : (v : Tree) → Reads b nesting v → Wrong v e → WrongItem Wrong b e

-- no fault at all
abbrev pub NeverWrong : Tree → CoseFault → Type 0
NeverWrong t e = ⊥

-- the tag n over what has these fields
abbrev pub Tagged : {F : Type 0} → ℕ → (Tree → F → Type 0) → Tree → F → Type 0
Tagged n Shape t f = (u : Tree) × (t ≡ tag n u) × Shape u f

-- no tag, another one, or what it holds has a fault
pub data WrongTagged (n : ℕ) (Wrong : Tree → CoseFault → Type 0) (t : Tree) : CoseFault → Type 0 where
  no_tag : is_tag t ≡ false → WrongTagged n Wrong t unexpected
  other_tag : (m : ℕ) (u : Tree) → t ≡ tag m u → m ≢ n → WrongTagged n Wrong t unexpected
  under_tag : (u : Tree) (e : CoseFault) → t ≡ tag n u → Wrong u e → WrongTagged n Wrong t e
