-- What a sink that builds items has been given: whole items, and the tags, arrays and maps that are
-- not full yet.
use Rattle.std.specs.Prelude.{◌≡◌, ℕ, zero, suc, List, [], ◌∷◌, ◌++◌, reverse, Contains}
use Rattle.std.specs.Prelude as std
use Rattle.ciborium_value.specs.Tree as tree
use Rattle.ciborium_value.specs.Tree.{Tree, no_trees, no_pairs}
use Rattle.ciborium_value.specs.View.{trees, pairs, view, view_pair}
use Rattle.ciborium_traits.specs.Events.{Event}
use Rattle.ciborium_traits.specs.Events as event
use Rattle.ciborium_typed.specs.declared.value_sink.Level.{Level}
use Rattle.ciborium_typed.specs.declared.value_sink.Level.TheVariants as level
use Rattle.ciborium_typed.specs.declared.value_sink.ValueSink.{ValueSink}

-- A tag waits for its item. An array has its items so far, and waits for the next one and n more. A
-- map has its entries so far, and waits for a key, or has the key of an entry and waits for its
-- value; n more entries come after that one.
pub data Container : Type 0 where
  tag : ℕ → Container
  array : List Tree → ℕ → Container
  map : List (Tree × Tree) → ℕ → Container
  entry : List (Tree × Tree) → Tree → ℕ → Container

-- the containers, each inside the one after it, and the whole items in order
abbrev pub Stack : Type 0
Stack = List Container × List Tree

-- an item that comes goes into the innermost container; one that is full then is an item that comes
abbrev pub filled : Tree → List Container → List Tree → Stack
filled t [] ts = ([], ts ++ (t ∷ []))
filled t (tag n ∷ cs) ts = filled (tree.tag n t) cs ts
filled t (array us zero ∷ cs) ts = filled (tree.array (trees (us ++ (t ∷ [])))) cs ts
filled t (array us (suc n) ∷ cs) ts = (array (us ++ (t ∷ [])) n ∷ cs, ts)
filled t (map ps n ∷ cs) ts = (entry ps t n ∷ cs, ts)
filled t (entry ps k zero ∷ cs) ts = filled (tree.map (pairs (ps ++ ((k, t) ∷ [])))) cs ts
filled t (entry ps k (suc n) ∷ cs) ts = (map (ps ++ ((k, t) ∷ [])) n ∷ cs, ts)

abbrev pub added : Tree → Stack → Stack
added t s = filled t s.0 s.1

-- one more container inside the others
abbrev pub begun : Container → Stack → Stack
begun c s = (c ∷ s.0, s.1)

-- a leaf is an item, as is an array or a map of nothing; other events begin a container
abbrev pub after : Stack → Event → Stack
after s (event.integer i) = added (tree.integer i) s
after s (event.bytes b) = added (tree.bytes b) s
after s (event.text b) = added (tree.text b) s
after s (event.float f) = added (tree.float f) s
after s (event.simple n) = added (tree.simple n) s
after s (event.tag n) = begun (tag n) s
after s (event.array zero) = added (tree.array no_trees) s
after s (event.array (suc n)) = begun (array [] n) s
after s (event.map zero) = added (tree.map no_pairs) s
after s (event.map (suc n)) = begun (map [] n) s

-- only the whole items are left
abbrev pub emptied : Stack → Stack
emptied s = ([], s.1)

-- these events lead from a state to the last one, and a stop at any of them leaves one of the others
abbrev pub Leads : List Stack → Stack → List Event → Stack → Type 0
Leads stops last [] s = s ≡ last
Leads stops last (e ∷ es) s = Contains stops (emptied s) × Leads stops last es (after s e)

abbrev pub container_of : Level → Container
container_of (level.Tag n) = tag n
container_of (level.Array v n) = array (std.map view v.items) n
container_of (level.Map v n) = map (std.map view_pair v.items) n
container_of (level.Entry v k n) = entry (std.map view_pair v.items) (view k) n

-- what a sink holds
abbrev pub state_of : ValueSink → Stack
state_of s = (reverse (std.map container_of s.levels.items), std.map view s.items.items)
