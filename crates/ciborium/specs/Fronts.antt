-- What stands at the front of some bytes: an item, or the heads of a message.
use Rattle.std.specs.Prelude.{◌≡◌, ℕ, ◌-◌, ◌<◌, ◌≤◌, ◌⊎◌, ⊤, List, ◌++◌, Some, Bool, Result, IfOk, IfErr}
use Rattle.ciborium_ll.specs.Seen.{Seen, Takes}
use Rattle.ciborium_ll.specs.Title.{Title}
use Rattle.ciborium_ll.specs.declared.hdr.Header.TheVariants.{Tag, Array}
use Rattle.ciborium_value.specs.Tree.{Tree, Trees, tree_count}
use Rattle.ciborium_value.specs.View.{view}
use Rattle.ciborium.specs.declared.de.Error.{Error}
use Rattle.ciborium.specs.declared.frames.Front.{Front}
use Rattle.ciborium.specs.declared.frames.Front.TheVariants as code
use Rattle.ciborium.specs.Damage.{Fault, Damage}
use Rattle.ciborium.specs.Front.{Reads, ReadsAll, Fronts, HoldsOne}
use Rattle.ciborium.specs.Reading.{NamesFault, TakesSome, IfMemory, ReadsAfterTitle}

-- the heads are those of a message of one signature or one tag
abbrev pub IsMessage : Front → Type 0
IsMessage (code.Item v) = ⊤
IsMessage (code.Four n) = (n ≡ 17) ⊎ (n ≡ 18)

-- `b` is the heads of the tag n and of an array of four items under it
pub record FourHeads (n : ℕ) (b : List ℕ) : Type 0 where
  pub outer : List ℕ
  pub inner : List ℕ
  pub is_tag : Title outer (Tag n)
  pub is_array : Title inner (Array (Some 4))
  pub whole : b ≡ outer ++ inner

-- `b` is an item of at most `limit` levels, or the heads of one
abbrev pub IsFront : ℕ → Front → List ℕ → Type 0
IsFront limit (code.Item v) b = Reads b limit (view v)
IsFront limit (code.Four n) b = (2 ≤ limit) × FourHeads n b

-- the same after the title of the tag n
abbrev pub IsTagged : ℕ → ℕ → Front → List ℕ → Type 0
IsTagged n limit (code.Item v) b = ReadsAfterTitle (Tag n) limit (view v) b
IsTagged n limit (code.Four m) b = (m ≡ n) × Title b (Array (Some 4))

-- a fault of one of four items
pub record FourDamage (limit stop : ℕ) (b : List ℕ) (f : Fault) : Type 0 where
  pub done : Trees
  pub rest : List ℕ
  pub before : Fronts b limit done rest
  pub few : tree_count done < 4
  pub is : Damage stop rest limit f

-- fewer than four items, and bytes in which no item ends before their end
pub record FourOne (limit : ℕ) (b : List ℕ) : Type 0 where
  pub done : Trees
  pub inner : List ℕ
  pub rest : List ℕ
  pub reads : ReadsAll inner limit done
  pub few : tree_count done < 4
  pub one : HoldsOne rest
  pub whole : b ≡ inner ++ rest

-- What a call tells that takes the next item, or the rest of an item that began at the sight `old`:
-- the item's value has P with the result, or the bytes have a fault.
pub record TakesItem {T E : Type 0} (ends : E → Bool) (limit : ℕ) (P : T → Tree → Type 0) (answer : Result T (Error E)) (old new : Seen) : Type 0 where
  pub ok : IfOk answer (λ x. Takes old new (λ b. (t : Tree) × Reads b limit t × P x t))
  pub err : IfErr answer (NamesFault ends (λ stop b f. Damage stop b limit f) old new)
  pub stops : IfErr answer (TakesSome old new)
  pub one : IfErr answer (IfMemory (Takes old new HoldsOne))

-- the same of four items
pub record TakesFour {T E : Type 0} (ends : E → Bool) (limit : ℕ) (P : T → Trees → Type 0) (answer : Result T (Error E)) (old new : Seen) : Type 0 where
  pub ok : IfOk answer (λ x. Takes old new (λ b. (ts : Trees) × ReadsAll b limit ts × (tree_count ts ≡ 4) × P x ts))
  pub err : IfErr answer (NamesFault ends (λ stop b f. FourDamage limit stop b f) old new)
  pub stops : IfErr answer (TakesSome old new)
  pub one : IfErr answer (IfMemory (Takes old new (FourOne limit)))
