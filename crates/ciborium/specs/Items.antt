-- A CBOR sequence (RFC 8742): items one after another with nothing between.
use Rattle.std.specs.Prelude.{◌≡◌, ℕ, ◌+◌, List, [], ◌∷◌, ◌++◌, length}
use Rattle.ciborium_value.specs.Tree.{Tree}
use Rattle.ciborium.specs.Front.{Reads, Front}

-- an item: if it begins, its bytes, and what it means
pub record Item : Type 0 where
  pub offset : ℕ
  pub bytes : List ℕ
  pub value : Tree

abbrev pub item_at : ℕ → List ℕ → Tree → Item
item_at at b v = record { offset = at; bytes = b; value = v }

-- the nesting limit of an item
abbrev pub nesting : ℕ
nesting = 256

-- no item of at most n levels begins here; nothing is left is one such case
abbrev pub IsUnreadableWithin : ℕ → List ℕ → Type 0
IsUnreadableWithin n b = (v : Tree) (rest : List ℕ) → Front b n v rest → ⊥

-- `b`, which begins at the offset `at`, is these readable items of at most n levels one after
-- another, and then `more`
abbrev pub SequenceWithin : ℕ → ℕ → List ℕ → List Item → List ℕ → Type 0
SequenceWithin n at b [] more = b ≡ more
SequenceWithin n at b (i ∷ is) more = (i.offset ≡ at) × Reads i.bytes n i.value
    × ((behind : List ℕ) × (b ≡ i.bytes ++ behind) × SequenceWithin n (at + length i.bytes) behind is more)

-- these are all items of `b`: in the rest nothing is left, or no readable item begins
pub record ItemsWithin (n at : ℕ) (b : List ℕ) (is : List Item) (rest : List ℕ) : Type 0 where
  pub sequence : SequenceWithin n at b is rest
  pub ends : IsUnreadableWithin n rest

abbrev pub Items : ℕ → List ℕ → List Item → List ℕ → Type 0
Items = ItemsWithin nesting
