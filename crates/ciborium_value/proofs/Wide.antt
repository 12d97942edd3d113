-- Numbers of 128 bits, their fewest bytes, and their values.
use Rattle.std.proofs.Common.{◌≡◌, ℕ, ℤ, zero, suc, pos, negsuc, ◌+◌, ◌*◌, ◌/◌, ◌%◌, ◌^◌, ◌<◌, ◌≤◌, List, [], ◌∷◌, length, Option, Some, true, false, cond, ◌&&◌, nat_eq, nat_lt, nat_le, refl, sym, ap, ◌∙◌, arith}
use Rattle.std.specs.Int.{w128, to_be_bytes, bytes_high_first, byte_at}
use Rattle.std.proofs.Math.Arith.{mod-mul}
use Rattle.std.proofs.Math.Nat.{pow-suc, mul_assoc, mul_comm, add-mul, mod-eq_of_lt, div-one, one-le-pow}
use Rattle.std.proofs.lemmas.Bool.{cond_both, false_from_ne_true, eqb-true, ltb-true, ltb-false, leb-true}
use Rattle.std.proofs.lemmas.Nat.{mod_below}
use Rattle.ciborium_value.specs.Tree.{Tree, integer, bytes, tag}
use Rattle.ciborium_value.specs.Folding.{big_endian_from, without_zeros, fold_bytes, fold_number, fold}
use Rattle.ciborium_value.proofs.Stripped.{strip_number, strip_again}
use Rattle.ciborium_value.specs.Numbers.{IsWide, fewest_bytes, number_tree, tree_number}

byte_is : (k n : ℕ) → byte_at k n ≡ n / 256 ^ k % 256
byte_is zero n = ap (λ m. m % 256) (sym (div-one n))
byte_is (suc k) n = refl

-- a * q + (d * p + r) for q = 256 p
placed : (a d p q r : ℕ) → q ≡ p * 256 → (256 * a + d) * p + r ≡ a * q + (d * p + r)
placed a d p q r e =
    let f : (256 * a + d) * p ≡ 256 * a * p + d * p = add-mul (256 * a) d p in
    let g : 256 * a * p ≡ 256 * (a * p) = mul_assoc 256 a p in
    let h : a * q ≡ a * p * 256 = ap (λ z. a * z) e ∙ sym (mul_assoc a p 256) in
    omega arith

digits : (k a n : ℕ) → big_endian_from a (bytes_high_first k n) ≡ a * 256 ^ k + n % 256 ^ k
digits zero a n = let h : n % 1 < 1 = mod_below n 1 (omega arith) in omega arith
digits (suc k) a n =
    let p : 0 < 256 ^ k = one-le-pow k 256 (omega arith) in
    let m : n % (256 * 256 ^ k) ≡ (n / 256 ^ k % 256) * 256 ^ k + n % 256 ^ k = mod-mul n {m = 256} {c = 256 ^ k} (omega arith) p in
    let q : 256 * 256 ^ k ≡ 256 ^ suc k = mul_comm 256 (256 ^ k) ∙ sym (pow-suc 256 k) in
    let d : byte_at k n * 256 ^ k + n % 256 ^ k ≡ n % 256 ^ suc k = ap (λ z. z * 256 ^ k + n % 256 ^ k) (byte_is k n) ∙ sym m ∙ ap (λ z. n % z) q in
    digits k (256 * a + byte_at k n) n ∙ placed a (byte_at k n) (256 ^ k) (256 ^ suc k) (n % 256 ^ k) (pow-suc 256 k) ∙ ap (λ z. a * 256 ^ suc k + z) d

fewest_number : (n : ℕ) → n < 2 ^ 128 → big_endian_from 0 (fewest_bytes n) ≡ n
fewest_number n l =
    let d : big_endian_from 0 (to_be_bytes w128 n) ≡ 0 * 256 ^ 16 + n % 256 ^ 16 = digits 16 0 n in
    let m : n % 256 ^ 16 ≡ n = mod-eq_of_lt (omega arith) in
    strip_number (to_be_bytes w128 n) ∙ d ∙ (let z : 0 * 256 ^ 16 + n % 256 ^ 16 ≡ n = omega arith in z)

pub number_kept : (i : ℤ) → IsWide i → tree_number (number_tree i) ≡ Some i
number_kept (pos n) l =
    let P : Tree → Type 0 = λ t. tree_number t ≡ Some (pos n) in
    cond_both (nat_lt n (2 ^ 64)) (integer (pos n)) (tag 2 (bytes (fewest_bytes n))) P (λ _. refl) (λ _. ap (λ m. Some (pos m)) (fewest_number n l))
number_kept (negsuc n) l =
    let P : Tree → Type 0 = λ t. tree_number t ≡ Some (negsuc n) in
    cond_both (nat_lt n (2 ^ 64)) (integer (negsuc n)) (tag 3 (bytes (fewest_bytes n))) P (λ _. refl) (λ _. ap (λ m. Some (negsuc m)) (fewest_number n (omega arith)))

-- a tag over bytes with no zero in front folds to itself, if no integer's head can say the number
tag_kept : (k n : ℕ) (c : List ℕ) → without_zeros c ≡ c → 2 ^ 64 ≤ n → (nat_eq k 3 && nat_le 170141183460469231731687303715884105728 n) ≡ false → fold_number k n c ≡ Some (tag k (bytes c))
tag_kept k n c s l f =
    let P : Option Tree → Type 0 = λ z. z ≡ Some (tag k (bytes c)) in
    cond_both (nat_lt n 18446744073709551616) _ _ P (λ t. let h : n < 18446744073709551616 = ltb-true n 18446744073709551616 t in let o : ⊥ = omega arith in absurd o)
    (λ _. cond_both (nat_eq k 3 && nat_le 170141183460469231731687303715884105728 n) _ _ P (λ t. let h : true ≡ false = sym t ∙ f in cc) (λ _. ap (λ z. Some (tag k (bytes z))) s))

bytes_kept : (k n : ℕ) (c : List ℕ) → without_zeros c ≡ c → big_endian_from 0 c ≡ n → 2 ^ 64 ≤ n → (nat_eq k 3 && nat_le 170141183460469231731687303715884105728 n) ≡ false → fold_bytes k c ≡ Some (tag k (bytes c))
bytes_kept k n c s e l f =
    let P : Option Tree → Type 0 = λ z. z ≡ Some (tag k (bytes c)) in
    cond_both (nat_le (length c) 16) _ _ P (λ _. ap (λ m. fold_number k m c) e ∙ tag_kept k n c s l f) (λ _. refl)

pub number_folded : (i : ℤ) → IsWide i → fold (number_tree i) ≡ Some (number_tree i)
number_folded (pos n) l =
    let P : Tree → Type 0 = λ t. fold t ≡ Some t in
    cond_both (nat_lt n (2 ^ 64)) (integer (pos n)) (tag 2 (bytes (fewest_bytes n))) P (λ _. refl)
    (λ f. bytes_kept 2 n (fewest_bytes n) (strip_again (to_be_bytes w128 n)) (fewest_number n l) (ltb-false n (2 ^ 64) f) refl)
number_folded (negsuc n) l =
    let P : Tree → Type 0 = λ t. fold t ≡ Some t in
    let below : nat_le 170141183460469231731687303715884105728 n ≡ false = false_from_ne_true _ (λ t. let h : 170141183460469231731687303715884105728 ≤ n = leb-true 170141183460469231731687303715884105728 n t in let o : ⊥ = omega arith in o) in
    cond_both (nat_lt n (2 ^ 64)) (integer (negsuc n)) (tag 3 (bytes (fewest_bytes n))) P (λ _. refl)
    (λ f. bytes_kept 3 n (fewest_bytes n) (strip_again (to_be_bytes w128 n)) (fewest_number n (omega arith)) (ltb-false n (2 ^ 64) f) below)
