-- What reading as a type gives.
use Rattle.std.specs.Prelude.{◌≡◌, ℕ, ◌⊎◌, List, length, Option, Some, None, Bool, IsTrue}
use Rattle.std.specs.Io.KnownBytes.{Consumes}
use Rattle.ciborium_value.specs.declared.kind.Kind.{Kind}
use Rattle.ciborium_value.specs.Tree.{Tree}
use Rattle.ciborium_traits.specs.declared.error.Error.{Error as ValueError}
use Rattle.ciborium_traits.specs.declared.error.Error.TheVariants as value
use Rattle.ciborium.specs.declared.de.Error.{Error}
use Rattle.ciborium.specs.declared.de.Error.TheVariants as code
use Rattle.ciborium.specs.Front.{Reads}
use Rattle.ciborium.specs.Damage.{Damage}
use Rattle.ciborium.specs.Reading.{Fails, IfKnown, IsFar, IsLong}

-- the error for an item that a type does not take
abbrev pub refusing : {E : Type 0} → ValueError → Error E
refusing (value.Kind k) = code.Semantic None k
refusing value.Memory = code.Memory

-- an error says why a type does not take an item, or, of a type that grows, that it is out of
-- memory
abbrev pub IsTypeFault : {E : Type 0} → Bool → Option Kind → Error E → Type 0
IsTypeFault grows why (code.Semantic o k) = (o ≡ None) × (why ≡ Some k)
IsTypeFault grows why code.Memory = IsTrue grows
IsTypeFault grows why e = ⊥

-- `b` is an item of at most `limit` levels, and x is taken from what it means
pub record ReadsAs {T : Type 0} (refusal : Tree → Option Kind) (takes : Tree → T → Type 0) (limit : ℕ) (x : T) (b : List ℕ) : Type 0 where
  pub item : Tree
  pub reads : Reads b limit item
  pub is_one : refusal item ≡ None
  pub taken : takes item x

-- `b` is an item of at most `limit` levels, and the error says why the type does not take what it
-- means
pub record IsRefused {E : Type 0} (grows : Bool) (refusal : Tree → Option Kind) (limit : ℕ) (e : Error E) (b : List ℕ) : Type 0 where
  pub item : Tree
  pub reads : Reads b limit item
  pub why : IsTypeFault grows (refusal item) e

-- a reader gave bytes that have P
abbrev pub Gives : Option (List ℕ) → Option (List ℕ) → (List ℕ → Type 0) → Type 0
Gives old new P = (b : List ℕ) × Consumes old new b × P b

-- what a fault leaves of a reader: some of its bytes were taken, or none, and the rest of them is
-- left; after a fault of its own it isn't said what is left. `TooLong` comes only after nearly 2^64
-- bytes.
abbrev pub LeavesRest : {E : Type 0} → Option (List ℕ) → Option (List ℕ) → Error E → Type 0
LeavesRest old new (code.Io e) = Unit {0}
LeavesRest old new code.TooLong = Gives old new (λ b. IsFar (length b))
LeavesRest old new e = Gives old new (λ _. Unit {0})

-- the error for the bytes to come: the fault of the item that is due at their front, with places
-- counted from their beginning, or the type's fault if the item there was taken
abbrev pub IsUnread : {E : Type 0} → (E → Bool) → Bool → (Tree → Option Kind) → ℕ → Option (List ℕ) → Option (List ℕ) → Error E → Type 0
IsUnread ends grows refusal limit old new e =
    IfKnown old (λ b. Fails ends (Unit {0}) (λ f. Damage (length b) b limit f) (IsLong 0 b) e) ⊎ Gives old new (IsRefused grows refusal limit e)
