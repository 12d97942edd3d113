-- Items that a gate can read.
use Rattle.std.specs.Prelude.{◌≡◌, ◌⊎◌, ◌≤◌, ◌+◌, ◌^◌, List, ℕ, length}
use Rattle.ciborium_value.specs.Tree.{Tree}
use Rattle.ciborium.specs.Front.{Reads}
use Rattle.ciborium.specs.Items.{nesting}
use Rattle.cose_sift.specs.declared.items.Halt.{Halt}
use Rattle.cose_sift.specs.declared.items.Halt.TheVariants as halt
use Rattle.cose_sift.specs.declared.taking.Stop.TheVariants as stop

abbrev pub IsReadable : List ℕ → Type 0
IsReadable b = (v : Tree) × Reads b nesting v

-- nothing is known of an item: memory ran out, or its places can't be counted
abbrev pub IsUntold : Halt → Type 0
IsUntold h = (h ≡ halt.Decode stop.Memory) ⊎ (h ≡ halt.Decode stop.TooLong)

-- the second only of bytes that come within 4,096 of what places can be
abbrev pub Unread : List ℕ → Halt → Type 0
Unread b h =
    (h ≡ halt.Decode stop.Memory)
    ⊎ ((h ≡ halt.Decode stop.TooLong) × (2 ^ 64 ≤ length b + 4096))
