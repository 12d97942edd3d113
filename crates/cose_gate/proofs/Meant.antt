-- Which trees mean an array or null, and what the tag of a message means.
use Rattle.std.proofs.Common.{◌≡◌, ◌⊎◌, inl, inr, ℕ, Bool, true, false, cond, ◌||◌, pos, negsuc, nat_lt, List, length, nat_eq, Option, None, Some, refl, subst}
use Rattle.std.specs.Prelude.{nat_le, ◌&&◌}
use Rattle.std.specs.Option.{option_map, option_and_then}
use Rattle.std.proofs.lemmas.Bool.{cond_both}
use borrow.Author.Tests.{eqb-true}
use Rattle.ciborium_value.specs.Tree.{Tree, integer, bytes, text, array, map, tag, simple, float, Trees, Pairs}
use Rattle.ciborium_value.specs.Folding.{tagged, fold_bytes, fold_number, big_endian_from, without_zeros}
use Rattle.ciborium.specs.Meaning.{meaning, meanings, pair_meanings, simple_meaning}
use Rattle.cose_gate.specs.declared.form.Form.{Form}
use Rattle.cose_gate.specs.declared.form.Form.TheVariants as form
use Rattle.cose_gate.specs.Forms.{tag_number}

-- what a tag means
abbrev Folds : Option Tree → Type 0
Folds None = Unit {0}
Folds (Some (integer i)) = Unit {0}
Folds (Some (tag n t)) = Unit {0}
Folds (Some (bytes b)) = ⊥
Folds (Some (text b)) = ⊥
Folds (Some (array ts)) = ⊥
Folds (Some (map ps)) = ⊥
Folds (Some (simple n)) = ⊥
Folds (Some (float f)) = ⊥

cond_folds : (b : Bool) (x y : Option Tree) → Folds x → Folds y → Folds (cond b x y)
cond_folds true x y p q = p
cond_folds false x y p q = q

fold_ok : (n : ℕ) (b : List ℕ) → Folds (fold_bytes n b)
fold_ok n b =
    let m = big_endian_from 0 b in
    cond_folds (nat_le (length b) 16) (fold_number n m b) (Some (tag n (bytes b)))
    (cond_folds (nat_lt m 18446744073709551616) (Some (integer (cond (nat_eq n 2) (pos m) (negsuc m)))) (cond (nat_eq n 3 && nat_le 170141183460469231731687303715884105728 m) None (Some (tag n (bytes (without_zeros b))))) tt
    (cond_folds (nat_eq n 3 && nat_le 170141183460469231731687303715884105728 m) None (Some (tag n (bytes (without_zeros b)))) tt tt)) tt

tagged_ok : (n : ℕ) (u : Tree) → Folds (tagged n u)
tagged_ok n (bytes b) = cond_folds (nat_eq n 2 || nat_eq n 3) (fold_bytes n b) (Some (tag n (bytes b))) (fold_ok n b) tt
tagged_ok n (integer i) = tt
tagged_ok n (text b) = tt
tagged_ok n (array ts) = tt
tagged_ok n (map ps) = tt
tagged_ok n (tag m t) = tt
tagged_ok n (simple m) = tt
tagged_ok n (float f) = tt

then_ok : (n : ℕ) (m : Option Tree) → Folds (option_and_then (tagged n) m)
then_ok n None = tt
then_ok n (Some u) = tagged_ok n u

-- what a simple value means
abbrev Simples : Option Tree → Type 0
Simples None = Unit {0}
Simples (Some (simple n)) = Unit {0}
Simples (Some (integer i)) = ⊥
Simples (Some (tag n t)) = ⊥
Simples (Some (bytes b)) = ⊥
Simples (Some (text b)) = ⊥
Simples (Some (array ts)) = ⊥
Simples (Some (map ps)) = ⊥
Simples (Some (float f)) = ⊥

cond_simples : (b : Bool) (x y : Option Tree) → Simples x → Simples y → Simples (cond b x y)
cond_simples true x y p q = p
cond_simples false x y p q = q

simple_ok : (n : ℕ) → Simples (simple_meaning n)
simple_ok n = cond_simples (nat_eq n 23) (Some (simple 22)) (cond (nat_le 20 n && nat_le n 22) (Some (simple n)) None) tt (cond_simples (nat_le 20 n && nat_le n 22) (Some (simple n)) None tt tt)

pub array_meant : (t : Tree) (ts : Trees) → meaning t ≡ Some (array ts) → (us : Trees) × (t ≡ array us) × (meanings us ≡ Some ts)
array_meant (integer i) ts e = absurd (cc)
array_meant (bytes b) ts e = absurd (cc)
array_meant (text b) ts e = absurd (cc)
array_meant (array us) ts e = (us, refl, go (meanings us) e)
  where
    go : (o : Option Trees) → option_map array o ≡ Some (array ts) → o ≡ Some ts
    go None e = absurd (let k : None ≡ Some (array ts) = e in cc)
    go (Some vs) e = let k : Some (array vs) ≡ Some (array ts) = e in cc
array_meant (map ps) ts e = absurd (go (pair_meanings ps) e)
  where
    go : (o : Option Pairs) → option_map map o ≡ Some (array ts) → ⊥
    go None e = let k : None ≡ Some (array ts) = e in cc
    go (Some vs) e = let k : Some (map vs) ≡ Some (array ts) = e in cc
array_meant (tag n t) ts e = absurd (subst Folds e (then_ok n (meaning t)))
array_meant (simple n) ts e = absurd (subst Simples e (simple_ok n))
array_meant (float f) ts e = absurd (cc)

pub null_meant : (t : Tree) → meaning t ≡ Some (simple 22) → (n : ℕ) × (t ≡ simple n) × ((n ≡ 22) ⊎ (n ≡ 23))
null_meant (integer i) e = absurd (cc)
null_meant (bytes b) e = absurd (cc)
null_meant (text b) e = absurd (cc)
null_meant (array us) e = absurd (go (meanings us) e)
  where
    go : (o : Option Trees) → option_map array o ≡ Some (simple 22) → ⊥
    go None e = let k : None ≡ Some (simple 22) = e in cc
    go (Some vs) e = let k : Some (array vs) ≡ Some (simple 22) = e in cc
null_meant (map ps) e = absurd (go (pair_meanings ps) e)
  where
    go : (o : Option Pairs) → option_map map o ≡ Some (simple 22) → ⊥
    go None e = let k : None ≡ Some (simple 22) = e in cc
    go (Some vs) e = let k : Some (map vs) ≡ Some (simple 22) = e in cc
null_meant (tag n t) e = absurd (subst Folds e (then_ok n (meaning t)))
null_meant (simple n) e = (n, refl, go e)
  where
    go : simple_meaning n ≡ Some (simple 22) → (n ≡ 22) ⊎ (n ≡ 23)
    go =
        cond_both (nat_eq n 23) (Some (simple 22)) (cond (nat_le 20 n && nat_le n 22) (Some (simple n)) None) (λ o. o ≡ Some (simple 22) → (n ≡ 22) ⊎ (n ≡ 23)) (λ t e. inr (eqb-true n 23 t))
        (λ _. cond_both (nat_le 20 n && nat_le n 22) (Some (simple n)) None (λ o. o ≡ Some (simple 22) → (n ≡ 22) ⊎ (n ≡ 23)) (λ _ e. inl (let k : Some (simple n) ≡ Some (simple 22) = e in cc)) (λ _ e. absurd (let k : None ≡ Some (simple 22) = e in cc)))
null_meant (float f) e = absurd (cc)

-- what the tag of a message means
pub message_meant : (f : Form) (m : Option Tree) (t : Tree) → option_and_then (tagged (tag_number f)) m ≡ Some t → (u : Tree) × (m ≡ Some u) × (t ≡ tag (tag_number f) u)
message_meant f None t e = absurd (let k : None ≡ Some t = e in cc)
message_meant f (Some u) t e = (u, refl, go f u e)
  where
    go : (f : Form) (u : Tree) → tagged (tag_number f) u ≡ Some t → t ≡ tag (tag_number f) u
    go form.Sign1 (bytes b) e = let k : Some (tag 18 (bytes b)) ≡ Some t = e in cc
    go form.Mac0 (bytes b) e = let k : Some (tag 17 (bytes b)) ≡ Some t = e in cc
    go f (integer i) e = let k : Some (tag (tag_number f) (integer i)) ≡ Some t = e in cc
    go f (text b) e = let k : Some (tag (tag_number f) (text b)) ≡ Some t = e in cc
    go f (array ts) e = let k : Some (tag (tag_number f) (array ts)) ≡ Some t = e in cc
    go f (map ps) e = let k : Some (tag (tag_number f) (map ps)) ≡ Some t = e in cc
    go f (tag n c) e = let k : Some (tag (tag_number f) (tag n c)) ≡ Some t = e in cc
    go f (simple n) e = let k : Some (tag (tag_number f) (simple n)) ≡ Some t = e in cc
    go f (float x) e = let k : Some (tag (tag_number f) (float x)) ≡ Some t = e in cc
