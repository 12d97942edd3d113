-- What bignum tags fold to (RFC 8949, section 3.4.3). Tag 2 over bytes is their unsigned number n,
-- tag 3 is -1 - n. Over at most 16 bytes the tag folds: to an integer if the number is in
-- -2^64 to 2^64 - 1, else to the tag over the bytes without the zeros in front. Tag 3 over 16 bytes
-- with the top bit set has no folding. Over 17 bytes or more the tag stays as it is.
use Rattle.std.specs.Prelude.{◌≡◌, ℕ, pos, negsuc, ◌+◌, ◌*◌, List, [], ◌∷◌, length, Option, Some, None, if◌then◌else◌, nat_eq, nat_lt, nat_le, option_map, option_and_then, ◌||◌, ◌&&◌}
use Rattle.ciborium_value.specs.Tree.{Tree, integer, bytes, text, array, map, tag, simple, float, Trees, no_trees, one_more, Pairs, no_pairs, pair_more}

-- the number of bytes, the highest first, after the number n
abbrev pub big_endian_from : ℕ → List ℕ → ℕ
big_endian_from n [] = n
big_endian_from n (x ∷ xs) = big_endian_from (256 * n + x) xs

abbrev pub without_zeros : List ℕ → List ℕ
without_zeros [] = []
without_zeros (x ∷ xs) = if nat_eq x 0 then without_zeros xs else x ∷ xs

-- what tag n (2 or 3) over at most 16 bytes b with the number m is; 2^64 and 2^127 are the bounds
abbrev pub fold_number : ℕ → ℕ → List ℕ → Option Tree
fold_number n m b =
    if nat_lt m 18446744073709551616 then Some (integer (if nat_eq n 2 then pos m else negsuc m))
    else if nat_eq n 3 && nat_le 170141183460469231731687303715884105728 m then None
    else Some (tag n (bytes (without_zeros b)))

abbrev pub fold_bytes : ℕ → List ℕ → Option Tree
fold_bytes n b = if nat_le (length b) 16 then fold_number n (big_endian_from 0 b) b else Some (tag n (bytes b))

-- what a tag over a folded tree is
abbrev pub tagged : ℕ → Tree → Option Tree
tagged n (bytes b) = if nat_eq n 2 || nat_eq n 3 then fold_bytes n b else Some (tag n (bytes b))
tagged n t = Some (tag n t)

-- tag n over t is a negative bignum below -2^127
abbrev pub IsTooNegative : ℕ → Tree → Type 0
IsTooNegative n t = (n ≡ 3) × (b : List ℕ) × (t ≡ bytes b) × (fold_bytes 3 b ≡ None)

-- a tree with each bignum in it folded, and each simple value read by `s`; none if one part has no
-- reading
abbrev mutual
  pub fold_by : (ℕ → Option Tree) → Tree → Option Tree
  fold_by s (integer i) = Some (integer i)
  fold_by s (bytes b) = Some (bytes b)
  fold_by s (text b) = Some (text b)
  fold_by s (array ts) = option_map array (fold_all_by s ts)
  fold_by s (map ps) = option_map map (fold_pairs_by s ps)
  fold_by s (tag n t) = option_and_then (tagged n) (fold_by s t)
  fold_by s (simple n) = s n
  fold_by s (float f) = Some (float f)

  pub fold_all_by : (ℕ → Option Tree) → Trees → Option Trees
  fold_all_by s no_trees = Some no_trees
  fold_all_by s (one_more t ts) = option_and_then (λ u. option_map (one_more u) (fold_all_by s ts)) (fold_by s t)

  pub fold_pairs_by : (ℕ → Option Tree) → Pairs → Option Pairs
  fold_pairs_by s no_pairs = Some no_pairs
  fold_pairs_by s (pair_more k v ps) = option_and_then (λ a. option_and_then (λ b. option_map (pair_more a b) (fold_pairs_by s ps)) (fold_by s v)) (fold_by s k)

-- the folding of a value's tree: simple values stay
abbrev pub fold : Tree → Option Tree
fold = fold_by (λ n. Some (simple n))
