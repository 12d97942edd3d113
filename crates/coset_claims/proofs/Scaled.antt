-- How two multiples of powers of two stand to each other.
use Rattle.std.specs.Prelude.{◌≡◌, ◌≤◌, ◌<◌, ℕ, zero, suc, ◌-◌, ◌*◌, ◌^◌, ◌%◌, min, refl, ℤ, pos, negsuc, neg_ℤ, ◌*ℤ◌, false}
use Rattle.std.specs.Cmp.{nat_cmp_is, ranks}
use Rattle.std.specs.Int.{is_negative}
use Rattle.std.specs.Ordering.{MatchOrdering, nat_cmp, int_cmp, ordering_reverse}
use Rattle.std.specs.declared.cmp.Ordering.{Ordering}
use Rattle.std.specs.declared.cmp.Ordering.TheVariants.{Less, Equal, Greater}
use Rattle.std.proofs.Common.{true≢false, lt_irrefl, mul-pos, arith, ◌∙◌, sym, ap, ⊎_elim}
use Rattle.std.proofs.Math.IntN.{pos-*ℤ-pos}
use Rattle.std.proofs.Math.Nat.{mul-lt-mul_of_pos_right, mul_assoc, min-eq_left, min-eq_right, mul-le-mul_left, lt_of_lt_of_le, le_trans, zero-mul, suc-mul, mul-one, min-le_right, le_of_lt}
use Rattle.std.proofs.Math.Pow.{pow_mono, shl_exact}
use Rattle.std.proofs.lemmas.Bool.{cases_lt}
use Rattle.std.proofs.lemmas.Cmp.{nat_cmp_total}
use Rattle.std.proofs.lemmas.Nat.{pow-add, pow_pos}

mapped : (r : Ordering) {P Q R P' Q' R' : Type 0} → (P → P') → (Q → Q') → (R → R')
    → MatchOrdering r P Q R → MatchOrdering r P' Q' R'
mapped Less f g h p = f p
mapped Equal f g h p = g p
mapped Greater f g h p = h p

-- the order of two from that of two others
by_order : (a b c d : ℕ) → (a < b → c < d) → (a ≡ b → c ≡ d) → (b < a → d < c)
    → nat_cmp a b ≡ nat_cmp c d
by_order a b c d f g h = nat_cmp_is c d (nat_cmp a b) (mapped (nat_cmp a b) f g h (ranks a b))

times : (a b c : ℕ) → 0 < c → nat_cmp a b ≡ nat_cmp (a * c) (b * c)
times a b c p = by_order a b (a * c) (b * c) (λ l. mul-lt-mul_of_pos_right l p) (ap (λ (x : ℕ). x * c)) (λ l. mul-lt-mul_of_pos_right l p)

-- a factor that is larger than the other number may be larger still
may_be_larger : (a b c d : ℕ) → b < c → c ≤ d → nat_cmp (a * c) b ≡ nat_cmp (a * d) b
may_be_larger zero b c d l m = rw (zero-mul c, zero-mul d) refl
may_be_larger (suc a) b c d l m =
    sym (nat_cmp_is (suc a * c) b Greater (lt_of_lt_of_le l over)) ∙ nat_cmp_is (suc a * d) b Greater (lt_of_lt_of_le l (le_trans over (mul-le-mul_left (suc a) m)))
  where
    over : c ≤ suc a * c
    over = omega (arith, suc-mul a c)

capped : (a b d : ℕ) → b < 2 ^ 64 → nat_cmp (a * 2 ^ min d 64) b ≡ nat_cmp (a * 2 ^ d) b
capped a b d l = ⊎_elim (λ s. ap (λ (x : ℕ). nat_cmp (a * 2 ^ x) b) (min-eq_left (le_of_lt s)))
    (λ s. ap (λ (x : ℕ). nat_cmp (a * 2 ^ x) b) (min-eq_right s) ∙ may_be_larger a b (2 ^ 64) (2 ^ d) l (pow_mono s)) (cases_lt d 64)

-- the one power less the other
apart : (a b j k : ℕ) → k ≤ j → nat_cmp (a * 2 ^ (j - k)) b ≡ nat_cmp (a * 2 ^ j) (b * 2 ^ k)
apart a b j k s = times (a * 2 ^ (j - k)) b (2 ^ k) (pow_pos k)
    ∙ ap (λ (x : ℕ). nat_cmp x (b * 2 ^ k)) (mul_assoc a (2 ^ (j - k)) (2 ^ k) ∙ ap (λ (x : ℕ). a * x) (sym (pow-add 2 (j - k) k) ∙ ap (λ (x : ℕ). 2 ^ x) (omega arith)))

one_way : (a b j k : ℕ) → b < 2 ^ 64 → k ≤ j
    → nat_cmp (a * 2 ^ min (j - k) 64) (b * 2 ^ min (k - j) 64) ≡ nat_cmp (a * 2 ^ j) (b * 2 ^ k)
one_way a b j k l s = ap (λ (x : ℕ). nat_cmp (a * 2 ^ min (j - k) 64) x) (ap (λ (x : ℕ). b * 2 ^ x) none ∙ mul-one b) ∙ capped a b (j - k) l ∙ apart a b j k s
  where
    less : k - j ≡ 0
    less = omega arith

    none : min (k - j) 64 ≡ 0
    none = ap (λ (x : ℕ). min x 64) less

turned : (a b : ℕ) → nat_cmp a b ≡ ordering_reverse (nat_cmp b a)
turned = nat_cmp_total.antisymm

both_ways : (a b j k : ℕ) → a < 2 ^ 64 → b < 2 ^ 64
    → nat_cmp (a * 2 ^ min (j - k) 64) (b * 2 ^ min (k - j) 64) ≡ nat_cmp (a * 2 ^ j) (b * 2 ^ k)
both_ways a b j k la lb = ⊎_elim
    (λ s. turned (a * 2 ^ min (j - k) 64) (b * 2 ^ min (k - j) 64)
    ∙ ap ordering_reverse (one_way b a k j la (le_of_lt s)) ∙ sym (turned (a * 2 ^ j) (b * 2 ^ k)))
    (one_way a b j k lb) (cases_lt j k)

whole : (a d : ℕ) → a < 2 ^ 64 → a * 2 ^ min d 64 % 2 ^ 128 ≡ a * 2 ^ min d 64
whole a d l = shl_exact 64 (min d 64) 128 l (omega (arith, min-le_right d 64))

-- what is compared in 128 bits
pub scaled : (a b j k : ℕ) → a < 2 ^ 64 → b < 2 ^ 64
    → nat_cmp (a * 2 ^ min (j - k) 64 % 2 ^ 128) (b * 2 ^ min (k - j) 64 % 2 ^ 128)
    ≡ nat_cmp (a * 2 ^ j) (b * 2 ^ k)
scaled a b j k la lb = rw (whole a (j - k) la, whole b (k - j) lb) (both_ways a b j k la lb)

negative_first : (x y : ℕ) → 0 < x → Less ≡ int_cmp (neg_ℤ (pos x)) (pos y)
negative_first zero y p = absurd (lt_irrefl 0 p)
negative_first (suc x) y p = refl

-- a negative number and one that isn't
pub below : (a j k : ℕ) (b : ℤ) → (a ≡ 0 → ⊥) → is_negative b ≡ false
    → Less ≡ int_cmp (neg_ℤ (pos (a * 2 ^ j))) (b *ℤ pos (2 ^ k))
below a j k (pos n) h p = rw (pos-*ℤ-pos n (2 ^ k)) (negative_first (a * 2 ^ j) (n * 2 ^ k) (mul-pos (omega (arith, h)) (pow_pos j)))
below a j k (negsuc n) h p = absurd (true≢false p)
