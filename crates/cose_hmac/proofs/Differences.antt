-- The bits that differ between two lists of bytes, gathered byte by byte.
use Rattle.std.proofs.Common.{◌≡◌, ℕ, ◌+◌, ◌<◌, min, List, length, get_or, bit_xor, bit_or, arith, sym, ◌∙◌, ◌↔◌, IsTrue, nat_eq, eqb-true, eq-eqb, ap, below_more}
use Rattle.std.proofs.lemmas.Nat.{and_le_l, and_le_r, le_or_l, le_or_r}
use Rattle.std.proofs.lemmas.Grind.{same_number_lists}
use Rattle.std.specs.Int.Bits.{xor_add_and, xor_self, or_zero_l}

-- no bit differs exactly when the first n bytes are equal
pub record Differs (a b : List ℕ) (n d : ℕ) : Type 0 where
  pub none : d ≡ 0 → (k : ℕ) → k < n → get_or a k 0 ≡ get_or b k 0
  pub some : ((k : ℕ) → k < n → get_or a k 0 ≡ get_or b k 0) → d ≡ 0

same_from_xor : (x y : ℕ) → bit_xor x y ≡ 0 → x ≡ y
same_from_xor x y e = omega (arith, xor_add_and x y, and_le_l x y, and_le_r x y)

one_more : {a b : List ℕ} {n d : ℕ} (x y : ℕ) → Differs a b n d → x ≡ get_or a n 0 → y ≡ get_or b n 0 → Differs a b (n + 1) (bit_or d (bit_xor x y))
one_more {a} {b} {n} {d} x y before p q = record {
  none = λ e. below_more _ _ (before.none (omega (arith, le_or_l d (bit_xor x y))))
      (sym p ∙ same_from_xor x y (omega (arith, le_or_r d (bit_xor x y))) ∙ q);
  some = λ all.
      let zero : d ≡ 0 = before.some (λ k h. all k (omega arith)) in
      let same : x ≡ y = p ∙ all n (omega arith) ∙ sym q in
      rw (zero, same, xor_self) (or_zero_l 0);
}

pub differs-more : {a b : List ℕ} {n m d : ℕ} (x y : ℕ) → m ≡ n + 1 → Differs a b n d → x ≡ get_or a n 0 → y ≡ get_or b n 0 → Differs a b m (bit_or d (bit_xor x y))
differs-more x y e before p q = rw e (one_more x y before p q)

-- all of two lists
pub differs-end : {a b : List ℕ} {n d : ℕ} → Differs a b n d → n ≡ min (length a) (length b) → length a ≡ length b → IsTrue (nat_eq d 0) ↔ (a ≡ b)
differs-end {a} {b} {n} {d} all p q = (
  λ e. same_number_lists a b q (λ k h. all.none (eqb-true d 0 e) k (omega arith)),
  λ same. eq-eqb d 0 (all.some (λ k h. ap (λ (x : List ℕ). get_or x k 0) same)),
)
