-- Bytes without the zeros in front.
use Rattle.std.proofs.Common.{◌≡◌, ◌≤◌, ◌+◌, ◌*◌, ℕ, List, [], ◌∷◌, length, cond, nat_eq, refl, ap, ◌∙◌, arith}
use Rattle.std.proofs.lemmas.Bool.{cond_both, eqb-true}
use Rattle.ciborium_value.specs.Folding.{big_endian_from, without_zeros}

-- zeros in front change no number
pub strip_number : (b : List ℕ) → big_endian_from 0 (without_zeros b) ≡ big_endian_from 0 b
strip_number [] = refl
strip_number (x ∷ xs) =
    let P : List ℕ → Type 0 = λ z. big_endian_from 0 z ≡ big_endian_from 0 (x ∷ xs) in
    cond_both (nat_eq x 0) (without_zeros xs) (x ∷ xs) P (λ e. let z : x ≡ 0 = eqb-true x 0 e in let k : 0 ≡ 256 * 0 + x = omega arith in strip_number xs ∙ ap (λ n. big_endian_from n xs) k) (λ _. refl)

-- no zero is left in front
pub strip_again : (b : List ℕ) → without_zeros (without_zeros b) ≡ without_zeros b
strip_again [] = refl
strip_again (x ∷ xs) =
    let P : List ℕ → Type 0 = λ z. without_zeros z ≡ z in
    cond_both (nat_eq x 0) (without_zeros xs) (x ∷ xs) P (λ _. strip_again xs) (λ e. ap (λ v. cond v (without_zeros xs) (x ∷ xs)) e)

pub strip_short : (b : List ℕ) → length (without_zeros b) ≤ length b
strip_short [] = omega arith
strip_short (x ∷ xs) =
    let P : List ℕ → Type 0 = λ z. length z ≤ length (x ∷ xs) in
    let short : length (without_zeros xs) ≤ length xs = strip_short xs in
    cond_both (nat_eq x 0) (without_zeros xs) (x ∷ xs) P (λ _. omega arith) (λ _. omega arith)
