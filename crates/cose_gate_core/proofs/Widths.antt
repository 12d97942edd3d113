-- How long the shortest heads are.
use Rattle.std.proofs.Common.{◌≡◌, ℕ, ◌^◌, ◌<◌, ◌≤◌, List, [], ◌∷◌, length, Bool, true, false, cond, refl, ap, ◌∙◌, arith, nat_lt}
use Rattle.std.proofs.lemmas.Bool.{cond_both, ltb-true, ltb-false}
use Rattle.std.specs.Int.{w16, w32, w64, to_be_bytes}
use Rattle.ciborium_ll.specs.Title.{first_byte, shortest}

-- the length of the shortest head with the number n
abbrev pub width : ℕ → ℕ
width n = cond (nat_lt n 24) 1 (cond (nat_lt n (2 ^ 8)) 2 (cond (nat_lt n (2 ^ 16)) 3 (cond (nat_lt n (2 ^ 32)) 5 9)))

cond_length : (c : Bool) (xs ys : List ℕ) → length (cond c xs ys) ≡ cond c (length xs) (length ys)
cond_length true xs ys = refl
cond_length false xs ys = refl

pub width_is : (major n : ℕ) → length (shortest major n) ≡ width n
unfolding shortest
width_is major n =
    let z : List ℕ = first_byte major 27 ∷ to_be_bytes w64 n in
    let y : List ℕ = first_byte major 26 ∷ to_be_bytes w32 n in
    let x : List ℕ = first_byte major 25 ∷ to_be_bytes w16 n in
    let v : List ℕ = first_byte major 24 ∷ n ∷ [] in
    let u : List ℕ = first_byte major n ∷ [] in
    let e = cond_length (nat_lt n (2 ^ 32)) y z in
    let f = cond_length (nat_lt n (2 ^ 16)) x (cond (nat_lt n (2 ^ 32)) y z) in
    let g = cond_length (nat_lt n (2 ^ 8)) v (cond (nat_lt n (2 ^ 16)) x (cond (nat_lt n (2 ^ 32)) y z)) in
    let h = cond_length (nat_lt n 24) u (cond (nat_lt n (2 ^ 8)) v (cond (nat_lt n (2 ^ 16)) x (cond (nat_lt n (2 ^ 32)) y z))) in
    h ∙ ap (λ m. cond (nat_lt n 24) 1 m) (g ∙ ap (λ m. cond (nat_lt n (2 ^ 8)) 2 m) (f ∙ ap (λ m. cond (nat_lt n (2 ^ 16)) 3 m) e))

-- no longer than k, if k leaves space for the number
pub at_most : (n k : ℕ) → 1 ≤ k → (24 ≤ n → 2 ≤ k) → (2 ^ 8 ≤ n → 3 ≤ k) → (2 ^ 16 ≤ n → 5 ≤ k) → (2 ^ 32 ≤ n → 9 ≤ k) → width n ≤ k
at_most n k a b c d e =
    let P : ℕ → Type 0 = λ l. l ≤ k in
    cond_both (nat_lt n 24) _ _ P (λ t. a) (λ f.
    cond_both (nat_lt n (2 ^ 8)) _ _ P (λ t. b (ltb-false n 24 f)) (λ f.
    cond_both (nat_lt n (2 ^ 16)) _ _ P (λ t. c (ltb-false n (2 ^ 8) f)) (λ f.
    cond_both (nat_lt n (2 ^ 32)) _ _ P (λ t. d (ltb-false n (2 ^ 16) f)) (λ f. e (ltb-false n (2 ^ 32) f)))))

pub record Room (n k : ℕ) : Type 0 where
  pub from_0 : 1 ≤ k
  pub from_24 : 24 ≤ n → 2 ≤ k
  pub from_256 : 2 ^ 8 ≤ n → 3 ≤ k
  pub from_65536 : 2 ^ 16 ≤ n → 5 ≤ k
  pub from_32 : 2 ^ 32 ≤ n → 9 ≤ k

pub at_least : (n : ℕ) → Room n (width n)
at_least n =
    let P : ℕ → Type 0 = Room n in
    cond_both (nat_lt n 24) _ _ P (λ t. let l : n < 24 = ltb-true n 24 t in
    record { from_0 = omega arith; from_24 = λ m. absurd (omega arith); from_256 = λ m. absurd (omega arith); from_65536 = λ m. absurd (omega arith); from_32 = λ m. absurd (omega arith) }) (λ f.
    cond_both (nat_lt n (2 ^ 8)) _ _ P (λ t. let l : n < 2 ^ 8 = ltb-true n (2 ^ 8) t in
    record { from_0 = omega arith; from_24 = λ m. omega arith; from_256 = λ m. absurd (omega arith); from_65536 = λ m. absurd (omega arith); from_32 = λ m. absurd (omega arith) }) (λ f.
    cond_both (nat_lt n (2 ^ 16)) _ _ P (λ t. let l : n < 2 ^ 16 = ltb-true n (2 ^ 16) t in
    record { from_0 = omega arith; from_24 = λ m. omega arith; from_256 = λ m. omega arith; from_65536 = λ m. absurd (omega arith); from_32 = λ m. absurd (omega arith) }) (λ f.
    cond_both (nat_lt n (2 ^ 32)) _ _ P (λ t. let l : n < 2 ^ 32 = ltb-true n (2 ^ 32) t in
    record { from_0 = omega arith; from_24 = λ m. omega arith; from_256 = λ m. omega arith; from_65536 = λ m. omega arith; from_32 = λ m. absurd (omega arith) }) (λ f.
    record { from_0 = omega arith; from_24 = λ m. omega arith; from_256 = λ m. omega arith; from_65536 = λ m. omega arith; from_32 = λ m. omega arith }))))

pub wider : (n m : ℕ) → n ≤ m → width n ≤ width m
wider n m l =
    let r = at_least m in
    at_most n (width m) r.from_0 (λ h. r.from_24 (omega arith)) (λ h. r.from_256 (omega arith)) (λ h. r.from_65536 (omega arith)) (λ h. r.from_32 (omega arith))
