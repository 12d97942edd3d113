-- What is written of parts fits heads if the parts do.
use Rattle.std.proofs.Common.{◌≡◌, ℕ, ◌+◌, ◌≤◌, List, [], ◌∷◌, ◌++◌, Option, Some, ap, subst, arith}
use Rattle.ciborium_value.specs.Tree.{Tree, bytes, array, tree_count}
use Rattle.ciborium_value.specs.View.{trees}
use Rattle.ciborium_value.specs.Encoding.{Fits, FitAll}
use Rattle.coset_headers.specs.Fields.{HeaderFields, ProtectedFields}
use Rattle.coset_headers.specs.Short.{IsShort, ShowsShort}
use Rattle.coset_headers.specs.Written.{header_tree, shown}
use Rattle.coset_headers.proofs.Fit.{prot_short, hdr_short}
use Rattle.coset_recipients.specs.PartsFields.{parts}
use Rattle.coset_recipients.specs.PartShapes.{HasParts}
use Rattle.coset_recipients.specs.PartsShort.{PartsShort}
use Rattle.coset_recipients.specs.PartsWritten.{optional_tree, parts_trees}
use Rattle.coset_recipients.proofs.PartsAgain.{parts_split}

fit_appended : (xs ys : List Tree) → FitAll (trees xs) → FitAll (trees ys) → FitAll (trees (xs ++ ys))
fit_appended [] ys a b = b
fit_appended (x ∷ xs) ys a b = (a.0, fit_appended xs ys a.1 b)

-- the values of the parts
pub values_fit : (p : ProtectedFields) (u : HeaderFields) (c : Option (List ℕ)) (ts : List Tree) → ((b : List ℕ) → shown p ≡ Some b → ShowsShort p → Fits (bytes b))
    → ((v : Tree) → header_tree u ≡ Some v → IsShort u → Fits v) → Fits (optional_tree c) → parts_trees (parts p u c) ≡ Some ts → PartsShort p u → FitAll (trees ts)
values_fit p u c ts f g h e s =
    let w = parts_split p u c ts e in
    subst (λ z. FitAll (trees z)) w.4 (f w.0 w.2 s.0, (g w.1 w.3 s.1, (h, tt)))

-- an array of the parts and at most two items after them
pub whole_fit : (p : ProtectedFields) (u : HeaderFields) (c : Option (List ℕ)) (ts ys : List Tree) → parts_trees (parts p u c) ≡ Some ts → FitAll (trees ts) → tree_count (trees ys) ≤ 2 → FitAll (trees ys) → Fits (array (trees (ts ++ ys)))
whole_fit p u c ts ys e f l g =
    let w = parts_split p u c ts e in
    let k : 1 + (1 + (1 + tree_count (trees ys))) ≡ tree_count (trees (ts ++ ys)) = ap (λ z. tree_count (trees (z ++ ys))) w.4 in
    (omega (arith, k, l), fit_appended ts ys f g)

-- what was read is short
pub parts_short : (n : ℕ) (x y z : Tree) (p : ProtectedFields) (u : HeaderFields) (c : Option (List ℕ)) (k : ℕ) → HasParts n x y z (parts p u c) k → PartsShort p u
parts_short n x y z p u c k h = (prot_short n p x k h.protected, hdr_short n u y k h.unprotected)
