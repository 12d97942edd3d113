-- What is taken from arrays and maps, and which of their refusals comes first.
use Rattle.std.specs.Prelude.{◌≡◌, ℕ, true, false, Option, Some, None, List, [], ◌∷◌, length, fold, ⊤, if◌then◌else◌, nat_eq}
use Rattle.std.specs.Option.{option_or}
use Rattle.std.specs.declared.cmp.Ordering.{Ordering}
use Rattle.std.specs.BTreeMap.{insert_entry}
use Rattle.ciborium_value.specs.declared.kind.Kind.{Kind}
use Rattle.ciborium_value.specs.declared.kind.Kind.TheVariants.{WrongType, Length}
use Rattle.ciborium_value.specs.Tree as spec
use Rattle.ciborium_value.specs.Tree.{Tree, Trees, no_trees, one_more, Pairs, no_pairs, pair_more, tree_count}
use Rattle.ciborium_value.specs.Kinds.{is_null}

-- the first refusal among the items, none if each is one of the type
abbrev pub first_refusal : (Tree → Option Kind) → Trees → Option Kind
first_refusal refusal no_trees = None
first_refusal refusal (one_more t ts) = option_or (refusal t) (first_refusal refusal ts)

-- the values are taken from the items, one from each
abbrev pub EachTaken : {T : Type 0} → (Tree → T → Type 0) → Trees → List T → Type 0
EachTaken takes no_trees [] = ⊤
EachTaken takes no_trees (x ∷ xs) = ⊥
EachTaken takes (one_more t ts) [] = ⊥
EachTaken takes (one_more t ts) (x ∷ xs) = takes t x × EachTaken takes ts xs

-- the first refusal among the entries, of each the key's before the value's
abbrev pub first_refusal_of_pairs : (Tree → Option Kind) → (Tree → Option Kind) → Pairs → Option Kind
first_refusal_of_pairs of_key of_value no_pairs = None
first_refusal_of_pairs of_key of_value (pair_more k v ps) =
    option_or (of_key k) (option_or (of_value v) (first_refusal_of_pairs of_key of_value ps))

-- keys and values are taken from the entries, one of each from each entry
abbrev pub EachPairTaken : {K V : Type 0} → (Tree → K → Type 0) → (Tree → V → Type 0) → Pairs → List (K × V) → Type 0
EachPairTaken takes_key takes_value no_pairs [] = ⊤
EachPairTaken takes_key takes_value no_pairs (e ∷ es) = ⊥
EachPairTaken takes_key takes_value (pair_more k v ps) [] = ⊥
EachPairTaken takes_key takes_value (pair_more k v ps) (e ∷ es) =
    takes_key k e.0 × takes_value v e.1 × EachPairTaken takes_key takes_value ps es

-- an array's refusal by that of its items; what is no array is of another type
abbrev pub array_refusal : (Trees → Option Kind) → Tree → Option Kind
array_refusal refusal (spec.array ts) = refusal ts
array_refusal refusal t = Some WrongType

-- a map's refusal by that of its entries; what is no map is of another type
abbrev pub map_refusal : (Pairs → Option Kind) → Tree → Option Kind
map_refusal refusal (spec.map ps) = refusal ps
map_refusal refusal t = Some WrongType

-- the first refusal among items that each have a type of their own
abbrev pub first_in_turn : List (Tree → Option Kind) → Trees → Option Kind
first_in_turn [] ts = None
first_in_turn (refusal ∷ rs) no_trees = None
first_in_turn (refusal ∷ rs) (one_more t ts) = option_or (refusal t) (first_in_turn rs ts)

-- the refusal of an array that has another number of items
abbrev pub other_length : ℕ → Trees → Option Kind
other_length n ts = if nat_eq (tree_count ts) n then None else Some Length

-- a tuple's refusal: so many items, and each of its type
abbrev pub tuple_refusal : List (Tree → Option Kind) → Trees → Option Kind
tuple_refusal rs ts = if nat_eq (tree_count ts) (length rs) then first_in_turn rs ts else Some Length

-- entries inserted from the first to the last, so that of equal keys the last value stays
abbrev pub inserted : {K V : Type 0} → (K → K → Ordering) → List (K × V) → List (K × V)
inserted cmp es = fold (λ m e. insert_entry cmp m e.0 e.1) [] es

-- null stands for no value
abbrev pub optional_tree : {T : Type 0} → (T → Tree) → Option T → Tree
optional_tree put None = spec.simple 22
optional_tree put (Some x) = put x

abbrev pub optional_refusal : (Tree → Option Kind) → Tree → Option Kind
optional_refusal refusal t = if is_null t then None else refusal t

-- no value is taken from null, and a value from any other item
abbrev pub OptionalTaken : {T : Type 0} → (Tree → T → Type 0) → Tree → Option T → Type 0
OptionalTaken takes t None = is_null t ≡ true
OptionalTaken takes t (Some x) = (is_null t ≡ false) × takes t x
