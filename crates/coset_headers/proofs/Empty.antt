-- A list by its test for emptiness.
use Rattle.std.proofs.Common.{◌≡◌, ◌≢◌, List, [], ◌∷◌, length, Bool, true, false, sym, ap, refl, ◌∙◌, arith, vec_len, Vec, Global}
use Rattle.std.specs.Prelude.{◌==◌}
use Rattle.std.specs.declared.vec.IntoIter.{IntoIter}
use Rattle.std.specs.Vec.Iter.{into_iter_items, into_iter_len}
use borrow.Author.Tests.{eqb-true}

pub length_zero : {A : Type 0} (xs : List A) → length xs ≡ 0 → xs ≡ []
length_zero [] e = refl
length_zero (x ∷ xs) e = absurd (omega (arith, e))

pub empty_by : {A : Type 0} (xs : List A) (b : Bool) → b ≡ (length xs == 0) → b ≡ true → xs ≡ []
empty_by xs b e f = length_zero xs (eqb-true (length xs) 0 (sym e ∙ f))

pub full_by : {A : Type 0} (xs : List A) (b : Bool) → b ≡ (length xs == 0) → b ≡ false → xs ≢ []
full_by xs b e f = λ q. let h : b ≡ true = e ∙ ap (λ z. length z == 0) q in let k : false ≡ true = sym f ∙ h in cc

pub full_vec : {A : Type 0} (v : Vec A Global) (b : Bool) → b ≡ (vec_len v == 0) → b ≡ false → v.items ≢ []
full_vec v b e f = full_by v.items b (e ∙ ap (λ n. n == 0) v.ok.0) f

pub empty_vec : {A : Type 0} (v : Vec A Global) (b : Bool) → b ≡ (vec_len v == 0) → b ≡ true → v.items ≡ []
empty_vec v b e f = empty_by v.items b (e ∙ ap (λ n. n == 0) v.ok.0) f

pub none_left : {A : Type 0} (it : IntoIter A Global) → into_iter_len it ≡ 0 → into_iter_items it ≡ []
none_left it e = length_zero (into_iter_items it) (omega (arith, e, it.rest.ok.0))
