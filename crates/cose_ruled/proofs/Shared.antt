-- How many bytes two lists begin and end with in common, as a loop counts them.
use Rattle.std.proofs.Common.{◌≡◌, ℕ, suc, ◌+◌, ◌-◌, ◌<◌, ◌≤◌, List, [], ◌∷◌, ◌++◌, length, take, drop, reverse, get_or, nat_eq, Bool, true, false, cond, refl, sym, ap, ◌∙◌, arith}
use Rattle.std.proofs.lemmas.List.{drop-drop, get_or-reverse, length-reverse, length-drop, reverse-append, reverse-reverse, take-append-drop}
use Rattle.std.proofs.Math.Seq.{take-append_seam}
use Rattle.std.proofs.lemmas.List.Sums.{common_prefix_len-le, common_prefix_len-drop_yes, common_prefix_len-drop_no}
use Rattle.std.proofs.lemmas.Bool.{eq-eqb, eqb-true}
use Rattle.cose_ruled.specs.Blocks.{common_front, common_back}

-- nothing is left of the second list
pub none_left : (xs ys : List ℕ) (n m : ℕ) → (length ys ≤ n) → n + common_front (drop n xs) (drop n ys) ≡ m → n ≡ m
none_left xs ys n m past is =
    omega (arith, length-drop n ys, (common_prefix_len-le nat_eq (drop n xs) (drop n ys)).1, is, past)

-- the same from the end
pub back_left : (xs ys : List ℕ) (n : ℕ) → (length ys ≤ n)
    → n + common_front (drop n (reverse xs)) (drop n (reverse ys)) ≡ common_back xs ys → n ≡ common_back xs ys
back_left xs ys n past is =
    let p : length (reverse ys) ≤ n = omega (arith, length-reverse ys, past) in
    none_left (reverse xs) (reverse ys) n (common_back xs ys) p is

pub back_more : (xs ys : List ℕ) (n : ℕ) → n < length xs → n < length ys
    → get_or xs (length xs - 1 - n) 0 ≡ get_or ys (length ys - 1 - n) 0
    → n + common_front (drop n (reverse xs)) (drop n (reverse ys)) ≡ common_back xs ys
    → n + 1 + common_front (drop (n + 1) (reverse xs)) (drop (n + 1) (reverse ys)) ≡ common_back xs ys
back_more xs ys n a b same is =
    let p : n < length (reverse xs) = omega (arith, length-reverse xs, a) in
    let q : n < length (reverse ys) = omega (arith, length-reverse ys, b) in
    let e : get_or (reverse xs) n 0 ≡ get_or (reverse ys) n 0
    = get_or-reverse xs n 0 a ∙ (same ∙ sym (get_or-reverse ys n 0 b)) in
    let t : nat_eq (get_or (reverse xs) n 0) (get_or (reverse ys) n 0) ≡ true = eq-eqb _ _ e in
    omega (arith, common_prefix_len-drop_yes nat_eq (reverse xs) (reverse ys) n 0 0 p q t, is)

pub back_stops : (xs ys : List ℕ) (n : ℕ) → n < length xs → n < length ys
    → nat_eq (get_or xs (length xs - 1 - n) 0) (get_or ys (length ys - 1 - n) 0) ≡ false
    → n + common_front (drop n (reverse xs)) (drop n (reverse ys)) ≡ common_back xs ys → n ≡ common_back xs ys
back_stops xs ys n a b differ is =
    let p : n < length (reverse xs) = omega (arith, length-reverse xs, a) in
    let q : n < length (reverse ys) = omega (arith, length-reverse ys, b) in
    let t : nat_eq (get_or (reverse xs) n 0) (get_or (reverse ys) n 0) ≡ false
    = (λ i. nat_eq (get_or-reverse xs n 0 a i) (get_or-reverse ys n 0 b i)) ∙ differ in
    omega (arith, common_prefix_len-drop_no nat_eq (reverse xs) (reverse ys) n 0 0 p q t, is)

-- what both begin with
front_by : (x y : ℕ) (xs ys : List ℕ) (n : ℕ) (b : Bool) → nat_eq x y ≡ b → take n xs ≡ take n ys
    → take (cond b (1 + n) 0) (x ∷ xs) ≡ take (cond b (1 + n) 0) (y ∷ ys)
front_by x y xs ys n true e same =
    let first : x ≡ y = eqb-true x y e in
    let more : 1 + n ≡ suc n = omega arith in
    rw more (λ i. first i ∷ same i)
front_by x y xs ys n false e same = refl

same_front : (xs ys : List ℕ) → take (common_front xs ys) xs ≡ take (common_front xs ys) ys
same_front [] ys = refl
same_front (x ∷ xs) [] = refl
same_front (x ∷ xs) (y ∷ ys) = front_by x y xs ys (common_front xs ys) (nat_eq x y) refl (same_front xs ys)

-- the last n of a list
last_of : (xs : List ℕ) (n : ℕ) → n ≤ length xs → drop (length xs - n) xs ≡ reverse (take n (reverse xs))
last_of xs n few =
    let m : ℕ = length xs - n in
    let end : List ℕ = reverse (drop m xs) in
    let size : length end ≡ n = omega (arith, length-reverse (drop m xs), length-drop m xs, few) in
    let parts : reverse xs ≡ end ++ reverse (take m xs)
    = ap (λ (z : List ℕ). reverse z) (sym (take-append-drop m xs)) ∙ reverse-append (take m xs) (drop m xs) in
    let front : take n (reverse xs) ≡ end
    = ap (λ (z : List ℕ). take n z) parts ∙ (ap (λ (k : ℕ). take k (end ++ reverse (take m xs))) (sym size) ∙ take-append_seam end (reverse (take m xs))) in
    sym (ap (λ (z : List ℕ). reverse z) front ∙ reverse-reverse (drop m xs))

same_back : (xs ys : List ℕ) → drop (length xs - common_back xs ys) xs ≡ drop (length ys - common_back xs ys) ys
same_back xs ys =
    let few = common_prefix_len-le nat_eq (reverse xs) (reverse ys) in
    let first : common_back xs ys ≤ length xs = omega (arith, few.0, length-reverse xs) in
    let second : common_back xs ys ≤ length ys = omega (arith, few.1, length-reverse ys) in
    last_of xs (common_back xs ys) first
    ∙ (ap (λ (z : List ℕ). reverse z) (same_front (reverse xs) (reverse ys)) ∙ sym (last_of ys (common_back xs ys) second))

-- a list by another: what both begin with, its own, and what both end with
pub whole : (base covered : List ℕ) (front back : ℕ) (rest : List ℕ) → front ≡ common_front base covered → rest ≡ drop front covered
    → back ≡ common_back (drop front base) rest
    → take front base ++ (take (length rest - back) rest ++ drop (length base - back) base) ≡ covered
whole base covered front back rest f r b =
    let short : back ≤ length (reverse (drop front base)) = omega (arith, b, (common_prefix_len-le nat_eq (reverse (drop front base)) (reverse rest)).0) in
    let few : front ≤ length base = omega (arith, f, (common_prefix_len-le nat_eq base covered).0) in
    let behind : front + (length (drop front base) - back) ≡ length base - back
    = omega (arith, short, few, length-reverse (drop front base), length-drop front base) in
    let end : drop (length base - back) base ≡ drop (length rest - back) rest
    = ap (λ (n : ℕ). drop n base) (sym behind) ∙ (sym (drop-drop (length (drop front base) - back) front base)
    ∙ (rw b (same_back (drop front base) rest))) in
    rw end (rw (take-append-drop (length rest - back) rest) (rw r (rw f (rw (same_front base covered) (take-append-drop (common_front base covered) covered)))))
