-- The tree that a value of the code stands for.
use Rattle.std.specs.Prelude.{ℤ, List, [], ◌∷◌, map, Bool, true, false, string_bytes}
use Rattle.ciborium_value.specs.Tree as spec
use Rattle.ciborium_value.specs.Tree.{Tree, Trees, no_trees, one_more, Pairs, no_pairs, pair_more}
use Rattle.ciborium_value.specs.declared.integer.Integer.{Integer}
use Rattle.ciborium_value.specs.declared.value.Value.{Value}
use Rattle.ciborium_value.specs.declared.value.Value.TheOpen as open_value
use Rattle.ciborium_value.specs.declared.value.Value.TheFolds.{fold-Value}

-- the number that an integer is
abbrev pub number_of : Integer → ℤ
number_of i = i.number

abbrev pub trees : List Tree → Trees
trees [] = no_trees
trees (t ∷ ts) = one_more t (trees ts)

abbrev pub pairs : List (Tree × Tree) → Pairs
pairs [] = no_pairs
pairs (p ∷ ps) = pair_more p.0 p.1 (pairs ps)

abbrev pub bool_tree : Bool → Tree
bool_tree false = spec.simple 20
bool_tree true = spec.simple 21

abbrev pub view_step : open_value.Value-F Tree → Tree
view_step (open_value.Integer i) = spec.integer (number_of i)
view_step (open_value.Bytes b) = spec.bytes b.items
view_step (open_value.Float f) = spec.float f
view_step (open_value.Text s) = spec.text (string_bytes s)
view_step (open_value.Bool b) = bool_tree b
view_step open_value.Null = spec.simple 22
view_step (open_value.Tag n t) = spec.tag n t.value
view_step (open_value.Array v) = spec.array (trees v.items)
view_step (open_value.Map v) = spec.map (pairs v.items)

-- a value as a tree
abbrev pub view : Value → Tree
view = fold-Value Tree view_step

abbrev pub views : List Value → Trees
views vs = trees (map view vs)

abbrev pub view_pair : Value × Value → Tree × Tree
view_pair p = (view p.0, view p.1)

abbrev pub view_pairs : List (Value × Value) → Pairs
view_pairs ps = pairs (map view_pair ps)
