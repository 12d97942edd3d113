-- The fields of a key with their numbers, and the fields that its entries give one after another.
use Rattle.std.proofs.Common.{◌≡◌, ℕ, pos, List, [], ◌∷◌, ◌++◌, Bool, true, false, ◌||◌, MatchBool, nat_eq, Option, Some, None, option_map, refl, sym, ap, subst, ◌∙◌}
use Rattle.ciborium_value.specs.Tree.{Tree}
use Rattle.coset_labels.specs.Entries.{is_label, IsIn, IsField}
use Rattle.coset_labels.specs.Facts.Entries.{is_label_is, at_old, others_own, others_more, distinct_snoc}
use Rattle.coset_labels.specs.Fields.{LabelFields, number, Named}
use Rattle.coset_labels.specs.Kinds.{some_bytes}
use Rattle.coset_labels.specs.Labels.{named_tree}
use Rattle.coset_headers.specs.Headers.{alg_of, at}
use Rattle.coset_headers.specs.Written.{bytes_value, crit_value}
use Rattle.coset_keys.specs.Fields.{KeyFields, reserved, no_key}
use Rattle.coset_keys.specs.Keys.{is_own, type_of, HasKeyOps, params_of, AreFields}
use Rattle.coset_keys.specs.Parts.{Fills, fills_kty, fills_key_id, fills_alg, fills_key_ops, fills_base_iv, fills_param, Known}
use Rattle.coset_labels.proofs.Table as table
use Rattle.coset_labels.proofs.Table.{counts, entered}

abbrev pub key : ℕ → LabelFields
key n = number (pos n)

-- the fields with their numbers, each with what it is written as, if it is
abbrev pub fields_of : KeyFields → List (ℕ × Option Tree)
fields_of k = (1, Some (named_tree k.kty)) ∷ (2, bytes_value k.key_id) ∷ (3, option_map named_tree k.alg) ∷ (4, crit_value k.key_ops) ∷ (5, bytes_value k.base_iv) ∷ []

or_false : (b : Bool) → (b || false) ≡ b
or_false true = refl
or_false false = refl

pub own_counts : (k : KeyFields) (n : ℕ) → counts (fields_of k) n ≡ true → is_own (key n) ≡ true
own_counts k n h = sym (ap (λ z. nat_eq 1 n || (nat_eq 2 n || (nat_eq 3 n || (nat_eq 4 n || z)))) (or_false (nat_eq 5 n))) ∙ h

-- a label without a field of its own is at no field's number
pub not_own : (n : ℕ) (m : LabelFields) → is_own (key n) ≡ true → is_own m ≡ false → is_label n m ≡ false
not_own = table.not_own is_label key (λ n m. refl) is_label_is is_own

-- the entry n gives the field k, if it is that one; else the field stays
abbrev Sets : {A : Type 0} → (Option Tree → A → Type 0) → ℕ → ℕ → Tree → A → A → Type 0
Sets has k n v old new = MatchBool (nat_eq k n) (has (Some v) new) (old ≡ new)

record SetsOne (n : ℕ) (v : Tree) (p q : KeyFields) : Type 0 where
  kty : Sets (IsField type_of reserved) 1 n v p.kty q.kty
  key_id : Sets (IsField some_bytes []) 2 n v p.key_id q.key_id
  alg : Sets (IsField alg_of None) 3 n v p.alg q.alg
  key_ops : Sets (HasKeyOps) 4 n v p.key_ops q.key_ops
  base_iv : Sets (IsField some_bytes []) 5 n v p.base_iv q.base_iv
  params : p.params ≡ q.params

set : (n : ℕ) (es : List (LabelFields × Tree)) (p q r : KeyFields) (m : LabelFields) (v : Tree) → AreFields es p → (IsIn m es → ⊥) → m ≡ key n → q ≡ r → is_own (key n) ≡ true → SetsOne n v p r → AreFields (es ++ (m, v) ∷ []) q
set n es p q r m v w d e g c s =
    let fresh : IsIn (key n) es → ⊥ = subst (λ z. IsIn z es → ⊥) e d in
    subst (λ z. AreFields (es ++ (z, v) ∷ []) q) (sym e) (subst (AreFields (es ++ (key n, v) ∷ [])) (sym g) (record {
      kty = entered is_label key (λ n m. refl) is_label_is (IsField type_of reserved) 1 n es v _ _ fresh w.kty s.kty;
      key_id = entered is_label key (λ n m. refl) is_label_is (IsField some_bytes []) 2 n es v _ _ fresh w.key_id s.key_id;
      alg = entered is_label key (λ n m. refl) is_label_is (IsField alg_of None) 3 n es v _ _ fresh w.alg s.alg;
      key_ops = entered is_label key (λ n m. refl) is_label_is (HasKeyOps) 4 n es v _ _ fresh w.key_ops s.key_ops;
      base_iv = entered is_label key (λ n m. refl) is_label_is (IsField some_bytes []) 5 n es v _ _ fresh w.base_iv s.base_iv;
      params = sym s.params ∙ w.params ∙ sym (others_own is_own es (key n) v c);
    }))

-- the fields with one more entry
filled : (es : List (LabelFields × Tree)) (p q : KeyFields) (m : LabelFields) (v : Tree) → AreFields es p → (IsIn m es → ⊥) → Fills m v p q → AreFields (es ++ (m, v) ∷ []) q
filled es p q m v w d (fills_kty a e f g) = set 1 es p q _ m v w d e g refl (record { kty = f; key_id = refl; alg = refl; key_ops = refl; base_iv = refl; params = refl })
filled es p q m v w d (fills_key_id a e f g) = set 2 es p q _ m v w d e g refl (record { kty = refl; key_id = f; alg = refl; key_ops = refl; base_iv = refl; params = refl })
filled es p q m v w d (fills_alg a e f g) = set 3 es p q _ m v w d e g refl (record { kty = refl; key_id = refl; alg = f; key_ops = refl; base_iv = refl; params = refl })
filled es p q m v w d (fills_key_ops a e f g) = set 4 es p q _ m v w d e g refl (record { kty = refl; key_id = refl; alg = refl; key_ops = f; base_iv = refl; params = refl })
filled es p q m v w d (fills_base_iv a e f g) = set 5 es p q _ m v w d e g refl (record { kty = refl; key_id = refl; alg = refl; key_ops = refl; base_iv = f; params = refl })
filled es p q m v w d (fills_param c g) =
    subst (AreFields (es ++ (m, v) ∷ [])) (sym g) (record {
      kty = subst (λ z. IsField type_of reserved z p.kty) (sym (old 1 refl)) w.kty;
      key_id = subst (λ z. IsField some_bytes [] z p.key_id) (sym (old 2 refl)) w.key_id;
      alg = subst (λ z. IsField alg_of None z p.alg) (sym (old 3 refl)) w.alg;
      key_ops = subst (λ z. HasKeyOps z p.key_ops) (sym (old 4 refl)) w.key_ops;
      base_iv = subst (λ z. IsField some_bytes [] z p.base_iv) (sym (old 5 refl)) w.base_iv;
      params = ap (λ z. z ++ (m, v) ∷ []) w.params ∙ sym (others_more is_own es m v c);
    })
  where
    old : (n : ℕ) → is_own (key n) ≡ true → at n (es ++ (m, v) ∷ []) ≡ at n es
    old n a = at_old (is_label n) es m v (not_own n m a c)

pub known_none : Known [] no_key
known_none = record { distinct = tt; fields = record { kty = refl; key_id = refl; alg = refl; key_ops = refl; base_iv = refl; params = refl } }

pub known_more : (es : List (LabelFields × Tree)) (p q : KeyFields) (m : LabelFields) (v : Tree) → Known es p → (IsIn m es → ⊥) → Fills m v p q → Known (es ++ (m, v) ∷ []) q
known_more es p q m v w n f = record { distinct = distinct_snoc es m v w.distinct n; fields = filled es p q m v w.fields n f }
