-- The number of some bytes.
use Rattle.std.proofs.Common.{◌≡◌, ◌<◌, ◌≤◌, ◌+◌, ◌*◌, ◌^◌, ℕ, List, [], ◌∷◌, ◌++◌, take, get_or, length, refl, ap, ◌∙◌, arith}
use Rattle.std.proofs.lemmas.List.{take_more}
use Rattle.std.proofs.lemmas.Nat.{pow-add}
use Rattle.std.proofs.Math.Nat.{pow-le-pow_right}
use Rattle.ciborium_value.specs.Folding.{big_endian_from}

pub number_more : (n : ℕ) (xs : List ℕ) (x : ℕ) → big_endian_from n (xs ++ x ∷ []) ≡ 256 * big_endian_from n xs + x
number_more n [] x = refl
number_more n (y ∷ ys) x = number_more (256 * n + y) ys x

pub number_step : (xs : List ℕ) (i n x d : ℕ) → i < length xs → n ≡ big_endian_from 0 (take i xs) → x ≡ get_or xs i d → n * 256 + x ≡ big_endian_from 0 (take (i + 1) xs)
number_step xs i n x d l e f =
    let a : big_endian_from 0 (take (i + 1) xs) ≡ 256 * big_endian_from 0 (take i xs) + get_or xs i d = ap (big_endian_from 0) (take_more xs i d l) ∙ number_more 0 (take i xs) (get_or xs i d) in
    omega arith

pub small_step : (n i x : ℕ) → n < 256 ^ i → x < 256 → n * 256 + x < 256 ^ (i + 1)
small_step n i x l m =
    let p : 256 ^ (i + 1) ≡ 256 ^ i * 256 = pow-add 256 i 1 in
    omega arith

pub below : (n i : ℕ) → n < 256 ^ i → i < 16 → n < 1329227995784915872903807060280344576
below n i l m = let h : i ≤ 15 = omega arith in let p : 256 ^ i ≤ 256 ^ 15 = pow-le-pow_right {n = 256} (omega arith) {i = i} {j = 15} h in omega arith
