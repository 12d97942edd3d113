-- Why no further value is read.
use Rattle.std.specs.Prelude.{◌≡◌, ◌≢◌, ℕ, ◌<◌, List, [], ◌++◌, length, Bool, true}
use Rattle.std.specs.Prelude.{Option, Some}
use Rattle.ciborium.specs.Damage.{Damage}
use Rattle.ciborium.specs.declared.de.Error.{Error}
use Rattle.ciborium.specs.declared.End.{End}
use Rattle.ciborium.specs.Front.{ReadsAll}
use Rattle.ciborium.specs.Items.{nesting}
use Rattle.ciborium.specs.Reading.{FailsAt}
use Rattle.ciborium.specs.Tree.{Tree, Trees, tree_count}
use Rattle.ciborium.specs.Typed.{IsUnread, LeavesRest}
use Rattle.ciborium.specs.declared.value.Kind.{Kind}

-- why no value is at the front of `rest`, which begins at the place `at`; the fault came at the
-- place `at'`
abbrev pub NoValue : ℕ → List ℕ → ℕ → Error End → Type 0
NoValue at rest at' e = FailsAt (λ _. true) rest at at' (λ stop b f. Damage stop b nesting f) e

-- why no value of a type is read at the front of the input, of which `rest` is left: no item is
-- there, or the type refuses the one that is, or it is out of memory
abbrev pub NoneOfType : Bool → (Tree → Option Kind) → List ℕ → List ℕ → Error End → Type 0
NoneOfType grows refusal input rest e =
    IsUnread (λ _. true) grows refusal nesting (Some input) (Some rest) e
    × LeavesRest (Some input) (Some rest) e

-- a value is read at the front of the input, and bytes follow it
abbrev pub FrontOnly : {T : Type 0} → (T → List ℕ → Type 0) → List ℕ → Type 0
FrontOnly {T} Is input =
    (x : T) × (front : List ℕ) × (rest : List ℕ) × Is x front × (input ≡ front ++ rest)
    × (rest ≢ [])

-- fewer than n values are at the front of the input, and why no further one
pub record Fewer (n : ℕ) (input : List ℕ) (e : Error End) : Type 0 where
  pub done : Trees
  pub few : tree_count done < n
  pub front : List ℕ
  pub rest : List ℕ
  pub whole : input ≡ front ++ rest
  pub reads : ReadsAll front nesting done
  pub place : ℕ
  pub why : NoValue (length front) rest place e
