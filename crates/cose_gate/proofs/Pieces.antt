-- Pieces by a space.
use Rattle.std.proofs.Common.{◌≡◌, ◌+◌, ◌*◌, ◌-◌, ◌≤◌, ◌<◌, ℕ, zero, suc, List, [], ◌∷◌, length, All, sum, sym, arith}
use Rattle.std.specs.Prelude.{min}
use Rattle.std.proofs.Math.Nat.{suc-mul}
use Rattle.std.proofs.lemmas.List.Elements.{All-cons}
use Rattle.std.proofs.lemmas.List.Sums.{sum_by-cons}
use Rattle.cose_gate.specs.Stated.{Cut}

pub pieces_sum : (room n : ℕ) (pieces : List ℕ) → Cut room n pieces → sum pieces ≡ n
pieces_sum room n [] c = sym c
pieces_sum room n (p ∷ ps) c =
    let more : sum ps ≡ n - p = pieces_sum room (n - p) ps c.2 in
    let first : sum (p ∷ ps) ≡ p + sum ps = sum_by-cons (λ x. x) p ps in
    let is : p ≡ min n room = c.0 in
    omega (arith, more, first, is)

pub pieces_each : (room n : ℕ) (pieces : List ℕ) → Cut room n pieces → All (λ p. p ≤ room) pieces
pieces_each room n [] c = λ k d l. absurd (omega arith)
pieces_each room n (p ∷ ps) c =
    let is : p ≡ min n room = c.0 in
    let le : p ≤ room = omega (arith, is) in
    All-cons (λ x. x ≤ room) p ps le (pieces_each room (n - p) ps c.2)

-- no bytes are cut into no pieces
no_piece : (room n : ℕ) (pieces : List ℕ) → n ≡ 0 → Cut room n pieces → length pieces ≡ 0
no_piece room n [] e c = let z : 0 ≡ 0 = omega arith in z
no_piece room n (p ∷ ps) e c = let k : 0 < n = c.1 in absurd (omega (arith, k, e))

-- one piece more
few_more : (room n p k : ℕ) → (n - p ≡ 0 → k ≡ 0) → k * room < (n - p) + room → p ≡ min n room → 0 < n → 0 < room → suc k * room < n + room
few_more room n p zero none few is more some = let e : suc 0 * room ≡ 0 * room + room = suc-mul 0 room in let z : 0 * room ≡ 0 = omega arith in omega (arith, e, z, more)
few_more room n p (suc k) none few is more some =
    let e : suc (suc k) * room ≡ suc k * room + room = suc-mul (suc k) room in
    let big : 0 < n - p = omega (arith, none) in
    let full : p ≡ room = omega (arith, is, big) in
    omega (arith, e, full, few, big)

pub pieces_few : (room n : ℕ) (pieces : List ℕ) → 0 < room → Cut room n pieces → length pieces * room < n + room
pieces_few room n [] some c = omega arith
pieces_few room n (p ∷ ps) some c = few_more room n p (length ps) (λ e. no_piece room (n - p) ps e c.2) (pieces_few room (n - p) ps some c.2) c.0 c.1 some
