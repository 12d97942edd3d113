-- What the contracts of `cbor!`'s calls cite.
use Rattle.std.specs.Prelude.{◌≡◌, List, [], ◌∷◌, ◌++◌, Result, Ok, Err}
use Rattle.ciborium_value.specs.Tree.{Tree, Trees, no_trees, one_more, Pairs, no_pairs, pair_more}
use Rattle.ciborium_traits.specs.declared.error.Error.{Error}
use Rattle.ciborium_traits.specs.declared.error.Error.TheVariants.{Memory}

-- a part is after those of a list; the first error is handed on, and no other is returned but out
-- of memory
abbrev pub Adds : {L P : Type 0} → (L → List P) → Result L Error → Result P Error → Result L Error → Type 0
Adds parts (Ok l) (Ok x) (Ok m) = parts m ≡ parts l ++ (x ∷ [])
Adds parts (Ok l) (Ok x) (Err e) = e ≡ Memory
Adds parts (Ok l) (Err e) r = r ≡ Err e
Adds parts (Err e) p r = r ≡ Err e

-- a key and its value, or the first error
abbrev pub entry_of : {V : Type 0} → Result V Error → Result V Error → Result (V × V) Error
entry_of (Ok k) (Ok v) = Ok (k, v)
entry_of (Ok k) (Err e) = Err e
entry_of (Err e) r = Err e

-- one more tree after the others
abbrev pub one_last : Trees → Tree → Trees
one_last no_trees t = one_more t no_trees
one_last (one_more u us) t = one_more u (one_last us t)

abbrev pub pair_last : Pairs → Tree → Tree → Pairs
pair_last no_pairs k v = pair_more k v no_pairs
pair_last (pair_more j u ps) k v = pair_more j u (pair_last ps k v)
