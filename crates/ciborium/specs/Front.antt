-- The one readable item at the front of some bytes.
use Rattle.std.specs.Prelude.{◌≡◌, ℕ, ◌≤◌, List, [], ◌++◌, Some}
use Rattle.ciborium_value.specs.Tree.{Tree, Trees, depth, depth_all}
use Rattle.ciborium.specs.Spelling.{Spells, SpellsAll}
use Rattle.ciborium.specs.Meaning.{meaning, meanings}

-- `b` is one item of at most `limit` levels that means v
pub record Reads (b : List ℕ) (limit : ℕ) (v : Tree) : Type 0 where
  pub tree : Tree
  pub spells : Spells b tree
  pub shallow : depth tree ≤ limit
  pub means : meaning tree ≡ Some v

-- `b` is such items one after another
pub record ReadsAll (b : List ℕ) (limit : ℕ) (vs : Trees) : Type 0 where
  pub trees : Trees
  pub spells : SpellsAll b trees
  pub shallow : depth_all trees ≤ limit
  pub means : meanings trees ≡ Some vs

-- `b` begins with an item that means v, and `rest` follows it
pub record Front (b : List ℕ) (limit : ℕ) (v : Tree) (rest : List ℕ) : Type 0 where
  pub spelling : List ℕ
  pub whole : b ≡ spelling ++ rest
  pub reads : Reads spelling limit v

pub record Fronts (b : List ℕ) (limit : ℕ) (vs : Trees) (rest : List ℕ) : Type 0 where
  pub spelling : List ℕ
  pub whole : b ≡ spelling ++ rest
  pub reads : ReadsAll spelling limit vs

-- no item ends before the end of these bytes: they hold at most one
abbrev pub HoldsOne : List ℕ → Type 0
HoldsOne b = (t : Tree) (x y : List ℕ) → b ≡ x ++ y → Spells x t → y ≡ []
