-- Words that lemmas share.
use Rattle.std.specs.Prelude.{◌≡◌, ◌≤◌, ℕ, List, Option, Some, None}
use Rattle.ciborium_ll.specs.declared.hdr.Header.{Header}
use Rattle.ciborium_value.specs.Tree.{Tree, Trees, depth, tag}
use Rattle.ciborium.specs.Damage.{Fault, Damage, Due}
use Rattle.ciborium.specs.Front.{Fronts}
use Rattle.ciborium.specs.Meaning.{meaning}
use Rattle.ciborium.specs.Spelling.{Spells}

-- some children are there, and the next is damaged
pub record ChildDamage (h : Header) (limit stop : ℕ) (b : List ℕ) (f : Fault) : Type 0 where
  pub done : Trees
  pub rest : List ℕ
  pub fronts : Fronts b limit done rest
  pub due : Due done rest h
  pub damage : Damage stop rest limit f

-- no more than a head claims, if it claims any
abbrev pub FitsIn : Option ℕ → ℕ → Type 0
FitsIn (Some n) done = done ≤ n
FitsIn None done = Unit {0}

-- the item after a tag
pub record TaggedAfterTitle (n limit : ℕ) (v : Tree) (inner : List ℕ) : Type 0 where
  pub tree : Tree
  pub spells : Spells inner tree
  pub shallow : depth (tag n tree) ≤ limit
  pub means : meaning tree ≡ Some v
