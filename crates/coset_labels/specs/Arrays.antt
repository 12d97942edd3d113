-- Arrays of what is written.
use Rattle.std.specs.Prelude.{List, [], ◌∷◌, Bool, false, nat_lt, Option, Some, option_map, option_and_then}
use Rattle.ciborium_value.specs.Tree.{Tree, array, tree_count}
use Rattle.ciborium_value.specs.View.{trees}

-- the trees that the fields are written as, in order; none if one of them is none
abbrev pub all_written : {F : Type 0} → (F → Option Tree) → List F → Option (List Tree)
all_written written [] = Some []
all_written written (f ∷ fs) = option_and_then (λ t. option_map (λ ts. t ∷ ts) (all_written written fs)) (written f)

abbrev pub array_of : {F : Type 0} → (F → Option Tree) → List F → Option Tree
array_of written fs = option_map (λ ts. array (trees ts)) (all_written written fs)

-- whether it is an array of three items or more, as recipients and signatures are
abbrev pub is_structure : Tree → Bool
is_structure (array ts) = nat_lt 2 (tree_count ts)
is_structure t = false
