-- Orders one after the other, and the places of heads.
use Rattle.std.proofs.Common.{◌≡◌, ◌≢◌, ℕ, pos, negsuc, ◌≤◌, List, [], ◌∷◌, ◌++◌, length, true, refl, ap, ◌∙◌, arith}
use Rattle.std.proofs.lemmas.Bool.{false≢true}
use Rattle.std.proofs.lemmas.Map.Lookups.{exact_unsigned}
use Rattle.std.specs.Cmp.Lexicographic.{slice_cmp}
use Rattle.std.specs.declared.cmp.Ordering.{Ordering}
use Rattle.std.specs.declared.cmp.Ordering.TheVariants.{Less, Equal, Greater}
use Rattle.std.specs.Ordering.{ordering_then, nat_cmp, is_eq}
use Rattle.ciborium_ll.specs.declared.hdr.Float.{Float as FloatBits}
use Rattle.ciborium_ll.specs.declared.hdr.Float.TheVariants.{Half, Single, Double}
use Rattle.ciborium_value.specs.Tree.{Tree, integer, bytes, text, array, map, tag, simple, float}
use Rattle.ciborium_value.specs.Order.{width, pattern}
use Rattle.ciborium_value.specs.Facts.Heads.{place}

abbrev pub bytes_cmp : List ℕ → List ℕ → Ordering
bytes_cmp = slice_cmp nat_cmp

pub assoc : (p c l : Ordering) → ordering_then p (ordering_then c l) ≡ ordering_then (ordering_then p c) l
assoc Less c l = refl
assoc Equal c l = refl
assoc Greater c l = refl

pub then_equal : (o : Ordering) → ordering_then o Equal ≡ o
then_equal Less = refl
then_equal Equal = refl
then_equal Greater = refl

pub equal_of : (o : Ordering) → is_eq o ≡ true → o ≡ Equal
equal_of Less e = absurd (false≢true e)
equal_of Equal e = refl
equal_of Greater e = absurd (false≢true e)

pub then_tied : (o p : Ordering) → ordering_then o p ≡ Equal → (o ≡ Equal) × (p ≡ Equal)
then_tied Less p e = absurd (false≢true (ap is_eq e))
then_tied Equal p e = (refl, e)
then_tied Greater p e = absurd (false≢true (ap is_eq e))

pub both_equal : {o p : Ordering} → o ≡ Equal → p ≡ Equal → ordering_then o p ≡ Equal
both_equal e f = λ i. ordering_then (e i) (f i)

pub float_tied : (f g : FloatBits) → width f ≡ width g → pattern f ≡ pattern g → f ≡ g
float_tied (Half n) (Half m) e h = ap Half h
float_tied (Single n) (Single m) e h = ap Single h
float_tied (Double n) (Double m) e h = ap Double h
float_tied (Half n) (Single m) e h = absurd (omega arith)
float_tied (Half n) (Double m) e h = absurd (omega arith)
float_tied (Single n) (Half m) e h = absurd (omega arith)
float_tied (Single n) (Double m) e h = absurd (omega arith)
float_tied (Double n) (Half m) e h = absurd (omega arith)
float_tied (Double n) (Single m) e h = absurd (omega arith)

-- two lists with one length, and more after them
pub same_long : (a b u v : List ℕ) → length a ≡ length b → bytes_cmp (a ++ u) (b ++ v) ≡ ordering_then (bytes_cmp a b) (bytes_cmp u v)
same_long [] [] u v e = refl
same_long [] (y ∷ b) u v e = absurd (omega (arith, e))
same_long (x ∷ a) [] u v e = absurd (omega (arith, e))
same_long (x ∷ a) (y ∷ b) u v e = ap (ordering_then (nat_cmp x y)) (same_long a b u v (omega (arith, e))) ∙ assoc (nat_cmp x y) (bytes_cmp a b) (bytes_cmp u v)

-- what comes second counts if the numbers are equal
pub where_equal : (n m : ℕ) (X Y S : Ordering) → (n ≡ m → X ≡ ordering_then Y S) → ordering_then (nat_cmp n m) X ≡ ordering_then (ordering_then (nat_cmp n m) Y) S
where_equal n m X Y S f = at (nat_cmp n m) refl
  where
    at : (o : Ordering) → nat_cmp n m ≡ o → ordering_then o X ≡ ordering_then (ordering_then o Y) S
    at Less e = refl
    at Equal e = f (exact_unsigned n m e)
    at Greater e = refl

pub apart : (r q : ℕ) (X Y : Ordering) → r ≢ q → ordering_then (nat_cmp r q) X ≡ ordering_then (nat_cmp r q) Y
apart r q X Y n = at (nat_cmp r q) refl
  where
    at : (o : Ordering) → nat_cmp r q ≡ o → ordering_then o X ≡ ordering_then o Y
    at Less e = refl
    at Equal e = absurd (n (exact_unsigned r q e))
    at Greater e = refl

-- trees with one place are of one kind
abbrev pub from_place : Tree → ℕ
from_place (integer i) = 0
from_place (bytes b) = 2
from_place (text b) = 3
from_place (array ts) = 4
from_place (map ps) = 5
from_place (tag n t) = 6
from_place (simple n) = 7
from_place (float f) = 8

abbrev pub to_place : Tree → ℕ
to_place (integer i) = 1
to_place (float f) = 10
to_place t = from_place t

pub places : (t : Tree) → (from_place t ≤ place t) × (place t ≤ to_place t)
places (integer (pos n)) = (omega arith, omega arith)
places (integer (negsuc n)) = (omega arith, omega arith)
places (bytes b) = (omega arith, omega arith)
places (text b) = (omega arith, omega arith)
places (array ts) = (omega arith, omega arith)
places (map ps) = (omega arith, omega arith)
places (tag n t) = (omega arith, omega arith)
places (simple n) = (omega arith, omega arith)
places (float (Half n)) = (omega arith, omega arith)
places (float (Single n)) = (omega arith, omega arith)
places (float (Double n)) = (omega arith, omega arith)
