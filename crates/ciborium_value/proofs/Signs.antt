-- Numbers by their sign and size.
use Rattle.std.proofs.Common.{◌≡◌, ℤ, pos, negsuc, suc, ◌-◌, unsigned_abs, int_lt, true, ap, arith}
use Rattle.std.proofs.lemmas.Bool.{ltb-true}

pub below_zero : (n : ℤ) → int_lt n (pos 0) ≡ true → negsuc (unsigned_abs n - 1) ≡ n
below_zero (pos n) l = let m = ltb-true n 0 l in let h : ⊥ = omega arith in absurd h
below_zero (negsuc n) l = let e : suc n - 1 ≡ n = omega arith in ap negsuc e
