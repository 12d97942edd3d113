-- What is written of the items of a sequence.
use Rattle.std.specs.Prelude.{◌≡◌, ◌≢◌, ℕ, ◌+◌, ◌≤◌, ◌⊎◌, List, [], ◌++◌, length, Bool, Option, Result, Ok, Err, nat_eq, if◌then◌else◌}
use Rattle.std.specs.Io.KnownBytes.{Keeps, Appends}
use Rattle.ciborium_ll.specs.Device.{AppendsFront}
use Rattle.ciborium_ll.specs.Seen.{Seen, Takes}
use Rattle.ciborium.specs.Items.{Item as Read, Items as Reads}
use Rattle.cose_sift.specs.declared.items.Halt.{Halt}
use Rattle.cose_sift.specs.declared.items.Halt.TheVariants as halt
use Rattle.cose_sift.specs.declared.sifting.Counts.{Counts}
use Rattle.cose_sift.specs.declared.sifting.Options.{Options}
use Rattle.cose_sift.specs.declared.taking.Stop.TheVariants as stop
use Rattle.cose_sift.specs.Reading.{IsReadable}
use Rattle.cose_sift.specs.Taking.{ItemFails, IsPlace, ItemDeepAt, most_of}
use Rattle.cose_sift.specs.Untagging.{Content}
use Rattle.cbor_walk.specs.Walking.{IsOne}

-- what is to be written of `x` can be read, and is P
abbrev pub Readably : Bool → List ℕ → (List ℕ → Type 0) → Type 0
Readably untag x P = (y : List ℕ) × Content untag x y × IsReadable y × P y

-- it can't be read
abbrev pub IsUnreadable : Bool → List ℕ → Type 0
IsUnreadable untag x = (y : List ℕ) → Content untag x y → IsReadable y → ⊥

-- of `b`, items one after another, `out` is what is to be written of those that have no more than
-- `max` bytes, if it can be read: n items, and k others
pub data Sifted (o : Options) : (b out : List ℕ) (n k : ℕ) → Type 0 where
  nothing : Sifted o [] [] 0 0
  kept : (b out x y : List ℕ) (n k : ℕ) → Sifted o b out n k → IsOne x → length x ≤ o.max → Content o.untag x y → IsReadable y → Sifted o (b ++ x) (out ++ y) (n + 1) k
  dropped : (b out x : List ℕ) (n k : ℕ) → Sifted o b out n k → IsOne x → (length x ≤ o.max → IsUnreadable o.untag x) → Sifted o (b ++ x) out n (k + 1)

-- the same if no tags are taken off: each item that is kept is written as it is
pub data AsReceived (max : ℕ) : (b out : List ℕ) (n k : ℕ) → Type 0 where
  none_yet : AsReceived max [] [] 0 0
  written : (b out x : List ℕ) (n k : ℕ) → AsReceived max b out n k → IsOne x → length x ≤ max → IsReadable x → AsReceived max (b ++ x) (out ++ x) (n + 1) k
  left_out : (b out x : List ℕ) (n k : ℕ) → AsReceived max b out n k → IsOne x → (length x ≤ max → IsReadable x → ⊥) → AsReceived max (b ++ x) out n (k + 1)

-- from `w` to `w'` that was written of `b`
abbrev pub Writes : Options → (w w' : Option (List ℕ)) → Counts → List ℕ → Type 0
Writes o w w' counts b = (out : List ℕ) × Sifted o b out counts.sifted counts.dropped × Appends w w' out

-- why no item was passed on after some, and what was written then; the end of the input stops a run
-- only inside an item
abbrev pub HaltsAt : Options → (old new : Seen) (w w' : Option (List ℕ)) → Halt → Type 0
HaltsAt o old new w w' (halt.Decode s) =
    ItemFails old new (halt.Decode s) × IsPlace old new (halt.Decode s)
    × ItemDeepAt (most_of o.max) old new (halt.Decode s) × Keeps w w'
    × (s ≡ stop.End → new.offset ≢ old.offset)
HaltsAt o old new w w' halt.Write = Keeps w w' ⊎ Takes old new (λ x. Readably o.untag x (AppendsFront w w'))

-- 0 if no item was left out, 1 if some were, and 4 if the run stopped
abbrev pub status_of : Result Counts Halt → ℕ
status_of (Ok c) = if nat_eq c.dropped 0 then 0 else 1
status_of (Err h) = 4

-- items were taken, what is written of them was, and then it stopped
pub record Halts (o : Options) (old new : Seen) (w w' : Option (List ℕ)) (h : Halt) : Type 0 where
  pub mid : Seen
  pub written : Option (List ℕ)
  pub counts : Counts
  pub before : Takes old mid (Writes o w written counts)
  pub why : HaltsAt o mid new written w' h

-- `b` is n items that a gate reads, and at none of them it stops: whatever its items are and its rest
-- is, nothing is in that
pub record IsReadThrough (b : List ℕ) (n : ℕ) : Type 0 where
  pub items : List Read
  pub whole : Reads 0 b items []
  pub count : length items ≡ n
  pub none_left : (is : List Read) (rest : List ℕ) → Reads 0 b is rest → rest ≡ []
