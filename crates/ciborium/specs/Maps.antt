-- A map that is read entry by entry (RFC 8949, section 3.1).
use Rattle.std.specs.Prelude.{◌≡◌, ℕ, ◌+◌, List, [], ◌∷◌, ◌++◌, length, Option, option_map, Bool, Result, IfOk, IfErr, IfSome, IfNone}
use Rattle.ciborium_ll.specs.Seen.{Seen, Takes}
use Rattle.ciborium_ll.specs.Title.{Title}
use Rattle.ciborium_ll.specs.declared.hdr.Header.TheVariants.{Map}
use Rattle.ciborium_value.specs.Tree.{Tree, map as map_tree, flat}
use Rattle.ciborium_value.specs.View.{view, pairs}
use Rattle.ciborium_value.specs.declared.value.Value.{Value}
use Rattle.ciborium.specs.declared.de.Error.{Error}
use Rattle.ciborium.specs.declared.maps.MapReader.{MapReader}
use Rattle.ciborium.specs.declared.maps.MapStart.{MapStart}
use Rattle.ciborium.specs.declared.maps.MapStart.TheVariants as code
use Rattle.ciborium.specs.Damage.{Damage}
use Rattle.ciborium.specs.Front.{Reads, ReadsAll, HoldsOne}
use Rattle.ciborium.specs.Reading.{NamesFault, TakesSome, IfMemory}

-- `b` is a map of at most `limit` levels up to the entries ps: its head claims them and those that
-- the reader has left, if it claims a number
pub record InMap (limit : ℕ) (m : MapReader) (ps : List (Tree × Tree)) (b : List ℕ) : Type 0 where
  pub title : List ℕ
  pub inner : List ℕ
  pub is_title : Title title (Map (option_map (λ n. n + length ps) m.left))
  pub reads : ReadsAll inner m.limit (flat (pairs ps))
  pub whole : b ≡ title ++ inner
  pub levels : limit ≡ m.limit + 1

-- `b` is the head of a map, or an item that is none
abbrev pub IsStart : ℕ → MapStart → List ℕ → Type 0
IsStart limit (code.Map m) b = InMap limit m [] b
IsStart limit (code.Other v) b = Reads b limit (view v)

-- what the next entry tells, if the map began at the sight `start` and had the entries ps: it is
-- whole, or has one more, or a fault
pub record NextEntry {E : Type 0} (ends : E → Bool) (limit : ℕ) (start now : Seen) (m : MapReader) (ps : List (Tree × Tree))
    (answer : Result (Option (Value × Value)) (Error E)) : Type 0 where
  pub whole : IfOk answer (λ o. IfNone o (Takes start now (λ b. Reads b limit (map_tree (pairs ps)))))
  pub more : IfOk answer (λ o. IfSome o (λ e. Takes start now (InMap limit m (ps ++ (view e.0, view e.1) ∷ []))))
  pub err : IfErr answer (NamesFault ends (λ stop b f. Damage stop b limit f) start now)
  pub stops : IfErr answer (TakesSome start now)
  pub one : IfErr answer (IfMemory (Takes start now HoldsOne))
