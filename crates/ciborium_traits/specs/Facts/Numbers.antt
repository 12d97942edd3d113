-- Whole numbers are taken back, and of an item one is taken.
use Rattle.std.proofs.Common.{◌≡◌, ℕ, ℤ, pos, negsuc, ◌<◌, ◌≤◌, ◌^◌, List, [], ◌∷◌, length, Bool, true, Some, None, cond, nat_eq, nat_lt, nat_le, FitsSigned, refl, sym, ap, ◌∙◌, arith}
use Rattle.std.specs.Int.{w8, w16, w32, w64, w128, to_be_bytes}
use Rattle.std.specs.Ordering.{nat_cmp, int_cmp}
use Rattle.std.specs.declared.cmp.Ordering.TheVariants.{Equal}
use Rattle.std.proofs.lemmas.Cmp.{tied_itself, nat_cmp_total, int_cmp_total}
use Rattle.std.proofs.lemmas.Bool.{cond_both, lt-ltb, le-leb}
use Rattle.ciborium_value.specs.declared.kind.Kind.TheVariants.{Range}
use Rattle.ciborium_value.specs.Folding.{without_zeros}
use Rattle.ciborium_value.specs.Numbers.{IsWide, fewest_bytes, number_tree, tree_number}
use Rattle.ciborium_value.specs.Tree.{Tree, integer, bytes, tag}
use Rattle.ciborium_value.proofs.Wide.{number_kept, number_folded}
use Rattle.ciborium_traits.specs.Back.{TakenBackBy}
use Rattle.ciborium_traits.specs.Ranges.{fits_unsigned, fits_signed, within, number_refusal}
use Rattle.ciborium_traits.specs.Reading.{bare}
use Rattle.ciborium_traits.specs.Wide.{wide_number}

strip_short : (b : List ℕ) → length (without_zeros b) ≤ length b
strip_short [] = omega arith
strip_short (x ∷ xs) =
    let P : List ℕ → Type 0 = λ z. length z ≤ length (x ∷ xs) in
    cond_both (nat_eq x 0) (without_zeros xs) (x ∷ xs) P (λ _. let h = strip_short xs in omega arith) (λ _. omega arith)

short : (n : ℕ) → nat_le (length (fewest_bytes n)) 16 ≡ true
short n = le-leb _ 16 (strip_short (to_be_bytes w128 n))

-- a number's own item is read as the number
wide_is : (i : ℤ) → wide_number (number_tree i) ≡ tree_number (number_tree i)
wide_is (pos n) =
    let P : Tree → Type 0 = λ t. wide_number t ≡ tree_number t in
    cond_both (nat_lt n (2 ^ 64)) (integer (pos n)) (tag 2 (bytes (fewest_bytes n))) P (λ _. refl) (λ _. ap (λ v. cond v (tree_number (tag 2 (bytes (fewest_bytes n)))) None) (short n))
wide_is (negsuc n) =
    let P : Tree → Type 0 = λ t. wide_number t ≡ tree_number t in
    cond_both (nat_lt n (2 ^ 64)) (integer (negsuc n)) (tag 3 (bytes (fewest_bytes n))) P (λ _. refl) (λ _. ap (λ v. cond v (tree_number (tag 3 (bytes (fewest_bytes n)))) None) (short n))

wide_back : (fits : ℤ → Bool) (i : ℤ) → IsWide i → fits i ≡ true → TakenBackBy number_tree (λ t. within fits (wide_number t)) (λ t i. wide_number t ≡ Some i) i
wide_back fits i w f =
    let k : wide_number (number_tree i) ≡ Some i = wide_is i ∙ number_kept i w in
    (number_folded i w, ap (within fits) k ∙ ap (λ v. cond v None (Some Range)) f, k)

pub unsigned_back : (x : ℕ) → x < 2 ^ 128 → TakenBackBy (λ n. number_tree (pos n)) (λ t. within (fits_unsigned 128) (wide_number t)) (λ t n. wide_number t ≡ Some (pos n)) x
unsigned_back x l = wide_back (fits_unsigned 128) (pos x) l (lt-ltb x (2 ^ 128) l)

pub signed_back : (x : ℤ) → FitsSigned w128 x → TakenBackBy number_tree (λ t. within (fits_signed 128) (wide_number t)) (λ t i. wide_number t ≡ Some i) x
signed_back (pos n) l = let h : n < 2 ^ 127 = l.sfits in wide_back (fits_signed 128) (pos n) (omega arith) (lt-ltb n (2 ^ 127) h)
signed_back (negsuc n) l = let h : n < 2 ^ 127 = l.sfits in wide_back (fits_signed 128) (negsuc n) h (lt-ltb n (2 ^ 127) h)

pub wide_once : (t : Tree) (i j : ℤ) → wide_number t ≡ Some i → wide_number t ≡ Some j → number_tree i ≡ number_tree j
wide_once t i j a b =
    let s : Some i ≡ Some j = sym a ∙ b in
    let e : i ≡ j = cc in
    ap number_tree e

unsigned_fits : (k n : ℕ) → n < 2 ^ k → number_refusal (fits_unsigned k) (integer (pos n)) ≡ None
unsigned_fits k n l = ap (λ z. cond z None (Some Range)) (lt-ltb n (2 ^ k) l)

pub unsigned_kept : (k n : ℕ) → n < 2 ^ k → TakenBackBy (λ n. integer (pos n)) (number_refusal (fits_unsigned k)) (λ t n. bare t ≡ integer (pos n)) n
unsigned_kept k n l = (refl, unsigned_fits k n l, refl)

signed_kept : (k : ℕ) (i : ℤ) → fits_signed k i ≡ true → TakenBackBy integer (number_refusal (fits_signed k)) (λ t n. bare t ≡ integer n) i
signed_kept k i e = (refl, ap (λ z. cond z None (Some Range)) e, refl)

pub signed_kept_8 : (i : ℤ) → FitsSigned w8 i → TakenBackBy integer (number_refusal (fits_signed 8)) (λ t n. bare t ≡ integer n) i
signed_kept_8 (pos n) l = signed_kept 8 (pos n) (lt-ltb n (2 ^ 7) l.sfits)
signed_kept_8 (negsuc n) l = signed_kept 8 (negsuc n) (lt-ltb n (2 ^ 7) l.sfits)

pub signed_kept_16 : (i : ℤ) → FitsSigned w16 i → TakenBackBy integer (number_refusal (fits_signed 16)) (λ t n. bare t ≡ integer n) i
signed_kept_16 (pos n) l = signed_kept 16 (pos n) (lt-ltb n (2 ^ 15) l.sfits)
signed_kept_16 (negsuc n) l = signed_kept 16 (negsuc n) (lt-ltb n (2 ^ 15) l.sfits)

pub signed_kept_32 : (i : ℤ) → FitsSigned w32 i → TakenBackBy integer (number_refusal (fits_signed 32)) (λ t n. bare t ≡ integer n) i
signed_kept_32 (pos n) l = signed_kept 32 (pos n) (lt-ltb n (2 ^ 31) l.sfits)
signed_kept_32 (negsuc n) l = signed_kept 32 (negsuc n) (lt-ltb n (2 ^ 31) l.sfits)

pub signed_kept_64 : (i : ℤ) → FitsSigned w64 i → TakenBackBy integer (number_refusal (fits_signed 64)) (λ t n. bare t ≡ integer n) i
signed_kept_64 (pos n) l = signed_kept 64 (pos n) (lt-ltb n (2 ^ 63) l.sfits)
signed_kept_64 (negsuc n) l = signed_kept 64 (negsuc n) (lt-ltb n (2 ^ 63) l.sfits)

-- numbers that are written alike are equal
pub tied_unsigned : (x y : ℕ) → integer (pos x) ≡ integer (pos y) → nat_cmp x y ≡ Equal
tied_unsigned x y e = let f : x ≡ y = cc in ap (nat_cmp x) (sym f) ∙ tied_itself nat_cmp_total x

pub tied_signed : (x y : ℤ) → integer x ≡ integer y → int_cmp x y ≡ Equal
tied_signed x y e = let f : x ≡ y = cc in ap (int_cmp x) (sym f) ∙ tied_itself int_cmp_total x
