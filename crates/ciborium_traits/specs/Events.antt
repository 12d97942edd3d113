-- What a sink is given of an item: an event for each leaf, and for a tag, an array or a map one for
-- itself and then those of its parts, a key before its value.
use Rattle.std.specs.Prelude.{ℕ, ℤ, List, [], ◌∷◌, ◌++◌, Bool, true, false}
use Rattle.ciborium_ll.specs.declared.hdr.Float.{Float as FloatBits}
use Rattle.ciborium_value.specs.Tree as tree
use Rattle.ciborium_value.specs.Tree.{Tree, Trees, no_trees, one_more, Pairs, no_pairs, pair_more, tree_count, pair_count}

-- false, true and null are the simple values 20, 21 and 22; arrays and maps are given with how many
-- items or entries they have
pub data Event : Type 0 where
  integer : ℤ → Event
  bytes text : List ℕ → Event
  float : FloatBits → Event
  simple tag array map : ℕ → Event

-- the event of false or true
abbrev pub boolean_event : Bool → Event
boolean_event false = simple 20
boolean_event true = simple 21

abbrev mutual
  pub events : Tree → List Event
  events (tree.integer i) = integer i ∷ []
  events (tree.bytes b) = bytes b ∷ []
  events (tree.text b) = text b ∷ []
  events (tree.array ts) = array (tree_count ts) ∷ events_all ts
  events (tree.map ps) = map (pair_count ps) ∷ events_pairs ps
  events (tree.tag n t) = tag n ∷ events t
  events (tree.simple n) = simple n ∷ []
  events (tree.float f) = float f ∷ []

  pub events_all : Trees → List Event
  events_all no_trees = []
  events_all (one_more t ts) = events t ++ events_all ts

  pub events_pairs : Pairs → List Event
  events_pairs no_pairs = []
  events_pairs (pair_more k v ps) = events k ++ (events v ++ events_pairs ps)

-- whatever was due after these events is due after the call
abbrev pub Puts : {P S : Type 0} → (P → List Event → S → Type 0) → S → List Event → S → Type 0
Puts {P} due s xs t = (p : P) (es : List Event) → due p (xs ++ es) s → due p es t

-- the sink stopped within what was due
abbrev pub Stops : {P S : Type 0} → (P → List Event → S → Type 0) → (P → S → Type 0) → S → List Event → S → Type 0
Stops {P} due torn s xs t = (p : P) (es : List Event) → due p (xs ++ es) s → torn p t
