-- The entries of a header one after another, and the fields that they give. What has a case for each
-- field is here; the rest goes by the list of their values.
use Rattle.std.proofs.Common.{◌≡◌, ℕ, zero, suc, pos, ◌+◌, ◌<◌, ◌≤◌, ◌⊎◌, inl, inr, List, [], ◌∷◌, ◌++◌, Bool, true, false, cond, nat_eq, nat_lt, Option, Some, None, refl, sym, ap, subst, ◌∙◌, arith}
use Rattle.std.specs.Prelude.{◌&&◌}
use Rattle.std.proofs.lemmas.Bool.Decides.{nat_tests}
use Rattle.ciborium_value.specs.Tree.{Tree}
use Rattle.ciborium_value.specs.View.{pairs}
use Rattle.coset_labels.specs.Facts.Entries.{is_label_is, label_only, NoneOfSeven, none_of_seven, field_once}
use Rattle.coset_labels.specs.Facts.Entries as facts
pub use Rattle.coset_labels.specs.Facts.Entries.{cond_none, bool_cases, in_snoc, distinct_snoc, there}
use Rattle.coset_labels.specs.Fields.{LabelFields, number, Named}
use Rattle.coset_labels.specs.Kinds.{some_bytes}
use Rattle.coset_labels.specs.Labels.{label_of}
use Rattle.coset_headers.specs.Fields.{Plain, no_plain}
use Rattle.coset_headers.specs.Headers.{is_at, is_core, alg_of, crit_of, HasContentType, entries, at, IsIn, others, IsField, IsPlain}
use Rattle.coset_headers.specs.Parts.{Fills, fills_alg, fills_crit, fills_content_type, fills_key_id, fills_iv, fills_partial_iv, fills_rest}
use Rattle.coset_headers.specs.Written.{written_entries}
use Rattle.coset_headers.specs.Values.{values_of, entries_from}
use Rattle.coset_headers.proofs.Fielded.{alg_is, crit_is, type_is, type_once, bytes_are}

pub entries_snoc : (bs : List (Tree × Tree)) (es : List (LabelFields × Tree)) (l v : Tree) (m : LabelFields) → entries (pairs bs) ≡ Some es → label_of l ≡ Some m
    → entries (pairs (bs ++ (l, v) ∷ [])) ≡ Some (es ++ (m, v) ∷ [])
entries_snoc = facts.entries_snoc label_of

pub is_at_is : (n : ℕ) (m : LabelFields) → is_at n m ≡ true → m ≡ number (pos n)
is_at_is = is_label_is

pub at_old : (n : ℕ) (es : List (LabelFields × Tree)) (m : LabelFields) (v : Tree) → is_at n m ≡ false → at n (es ++ (m, v) ∷ []) ≡ at n es
at_old n = facts.at_old (is_at n)

pub at_new : (n : ℕ) (es : List (LabelFields × Tree)) (m : LabelFields) (v : Tree) → is_at n m ≡ true → at n es ≡ None → at n (es ++ (m, v) ∷ []) ≡ Some v
at_new n = facts.at_new (is_at n)

pub at_none : (n : ℕ) (es : List (LabelFields × Tree)) (m : LabelFields) → is_at n m ≡ true → (IsIn m es → ⊥) → at n es ≡ None
at_none n es m e = facts.at_none (is_at n) es m (label_only n m e)

pub others_core : (es : List (LabelFields × Tree)) (m : LabelFields) (v : Tree) → is_core m ≡ true → others (es ++ (m, v) ∷ []) ≡ others es
others_core = facts.others_own is_core

pub others_more : (es : List (LabelFields × Tree)) (m : LabelFields) (v : Tree) → is_core m ≡ false → others (es ++ (m, v) ∷ []) ≡ others es ++ (m, v) ∷ []
others_more = facts.others_more is_core

-- a label without a field of its own is at no field's number
pub no_core : (m : LabelFields) → is_core m ≡ false → NoneOfSeven (λ n. is_at n m)
no_core m = none_of_seven (λ n. is_at n m)

-- ---- numbers of labels
pub less : (a b : ℕ) → a < b → nat_lt a b ≡ true
less a b h = grind (arith, nat_tests)

pub unlike : (a b : ℕ) → (a ≡ b → ⊥) → nat_eq a b ≡ false
unlike a b h = grind (arith, nat_tests)

pub alike : (a b : ℕ) → a ≡ b → nat_eq a b ≡ true
alike a b h = grind (arith, nat_tests)

pub core_range : (n : ℕ) → is_core (number (pos n)) ≡ (nat_lt 0 n && nat_lt n 8)
core_range n = grind (arith, nat_tests)

pub core_at : (n : ℕ) → 0 < n → n < 8 → is_core (number (pos n)) ≡ true
core_at n a b = core_range n ∙ ap (λ z. z && nat_lt n 8) (less 0 n a) ∙ less n 8 b

pub not_at : (n : ℕ) (l : LabelFields) → 0 < n → n < 8 → is_core l ≡ false → (is_at n l ≡ true) ⊎ (is_at n l ≡ false) → is_at n l ≡ false
not_at n l a b c (inl t) = let e : true ≡ false = sym (core_at n a b) ∙ ap is_core (sym (is_at_is n l t)) ∙ c in cc
not_at n l a b c (inr f) = f

-- ---- the values at the labels
-- the values at f labels from n on
abbrev pub values_at : ℕ → ℕ → List (LabelFields × Tree) → List (Option Tree)
values_at zero n es = []
values_at (suc f) n es = at n es ∷ values_at f (suc n) es

-- the values of the fields, with one more entry
abbrev values_with : ℕ → ℕ → List (LabelFields × Tree) → LabelFields → Tree → List (Option Tree)
values_with zero n es m v = []
values_with (suc f) n es m v = cond (is_at n m) (Some v) (at n es) ∷ values_with f (suc n) es m v

at_with : (n : ℕ) (es : List (LabelFields × Tree)) (m : LabelFields) (v : Tree) → (IsIn m es → ⊥) → (is_at n m ≡ true) ⊎ (is_at n m ≡ false)
    → at n (es ++ (m, v) ∷ []) ≡ cond (is_at n m) (Some v) (at n es)
at_with n es m v d (inl t) = at_new n es m v t (at_none n es m t d) ∙ sym (ap (λ b. cond b (Some v) (at n es)) t)
at_with n es m v d (inr f) = at_old n es m v f ∙ sym (ap (λ b. cond b (Some v) (at n es)) f)

values_more : (f n : ℕ) (es : List (LabelFields × Tree)) (m : LabelFields) (v : Tree) → (IsIn m es → ⊥) → values_at f n (es ++ (m, v) ∷ []) ≡ values_with f n es m v
values_more zero n es m v d = refl
values_more (suc f) n es m v d = λ i. at_with n es m v d (bool_cases (is_at n m)) i ∷ values_more f (suc n) es m v d i

values_old : (f n : ℕ) (es : List (LabelFields × Tree)) (m : LabelFields) (v : Tree) → ((k : ℕ) → n ≤ k → k < n + f → is_at k m ≡ false)
    → values_at f n (es ++ (m, v) ∷ []) ≡ values_at f n es
values_old zero n es m v h = refl
values_old (suc f) n es m v h =
    λ i. at_old n es m v (h n (omega arith) (omega arith)) i ∷ values_old f (suc n) es m v (λ k a b. h k (omega (arith, a)) (omega (arith, b))) i

-- ---- the fields, each by its value
abbrev pub FieldsOf : List (Option Tree) → List (LabelFields × Tree) → Plain → Type 0
FieldsOf (a ∷ b ∷ c ∷ d ∷ e ∷ f ∷ []) rest p = IsField alg_of None a p.alg × IsField crit_of [] b p.crit × HasContentType c p.content_type
    × IsField some_bytes [] d p.key_id × IsField some_bytes [] e p.iv × IsField some_bytes [] f p.partial_iv
    × ((p.iv ≡ []) ⊎ (p.partial_iv ≡ [])) × (p.rest ≡ rest)
FieldsOf _ rest p = ⊥

pub fields_of : (es : List (LabelFields × Tree)) (p : Plain) → IsPlain es p → FieldsOf (values_at 6 1 es) (others es) p
fields_of es p w = (w.alg, w.crit, w.content_type, w.key_id, w.iv, w.partial_iv, w.one_iv, w.rest)

from_fields : (es : List (LabelFields × Tree)) (p : Plain) → FieldsOf (values_at 6 1 es) (others es) p → IsPlain es p
from_fields es p u = record { alg = u.0; crit = u.1; content_type = u.2; key_id = u.3; iv = u.4; partial_iv = u.5; one_iv = u.6; rest = u.7 }

-- the values are written as they were read
pub values_read : (es : List (LabelFields × Tree)) (p : Plain) → IsPlain es p → values_of p ≡ values_at 6 1 es
values_read es p w =
    let u = fields_of es p w in
    λ i. alg_is (at 1 es) _ u.0 i ∷ crit_is (at 2 es) _ u.1 i ∷ type_is (at 3 es) _ u.2 i ∷ bytes_are (at 4 es) _ u.3 i ∷ bytes_are (at 5 es) _ u.4 i ∷ bytes_are (at 6 es) _ u.5 i ∷ []

pub plain_same : (p q : Plain) → p.alg ≡ q.alg → p.crit ≡ q.crit → p.content_type ≡ q.content_type → p.key_id ≡ q.key_id → p.iv ≡ q.iv → p.partial_iv ≡ q.partial_iv → p.rest ≡ q.rest → p ≡ q
plain_same p q a b c d e f g = λ i. record { alg = a i; crit = b i; content_type = c i; key_id = d i; iv = e i; partial_iv = f i; rest = g i }

pub plain_once : (es : List (LabelFields × Tree)) (p q : Plain) → IsPlain es p → IsPlain es q → p ≡ q
plain_once es p q v w =
    let a = fields_of es p v in
    let b = fields_of es q w in
    plain_same p q (field_once _ _ _ _ _ a.0 b.0) (field_once _ _ _ _ _ a.1 b.1) (type_once (at 3 es) _ _ a.2 b.2) (field_once _ _ _ _ _ a.3 b.3)
    (field_once _ _ _ _ _ a.4 b.4) (field_once _ _ _ _ _ a.5 b.5) (a.7 ∙ sym b.7)

-- entries with the same values have the same fields
pub kept_plain : (es fs : List (LabelFields × Tree)) (p : Plain) → values_at 6 1 fs ≡ values_at 6 1 es → others fs ≡ others es → IsPlain es p → IsPlain fs p
kept_plain es fs p v r w = from_fields fs p (subst (λ z. FieldsOf z (others fs) p) (sym v) (subst (λ z. FieldsOf (values_at 6 1 es) z p) (sym r) (fields_of es p w)))

-- ---- the fields with one more entry
module _ (es : List (LabelFields × Tree)) (p q : Plain) (m : LabelFields) (v : Tree) (w : IsPlain es p) (n : IsIn m es → ⊥) where
  read : FieldsOf (values_at 6 1 es) (others es) p
  read = fields_of es p w

  filled_at : (k : ℕ) (r : Plain) → m ≡ number (pos k) → is_core (number (pos k)) ≡ true → q ≡ r → FieldsOf (values_with 6 1 es (number (pos k)) v) (others es) r
      → IsPlain (es ++ (m, v) ∷ []) q
  filled_at k r e c g u =
      from_fields (es ++ (m, v) ∷ []) q (subst (λ z. FieldsOf z (others (es ++ (m, v) ∷ [])) q) (sym (values_more 6 1 es m v n ∙ ap (λ l. values_with 6 1 es l v) e))
      (subst (λ z. FieldsOf (values_with 6 1 es (number (pos k)) v) z q) (sym (others_core es m v (ap is_core e ∙ c))) (subst (FieldsOf (values_with 6 1 es (number (pos k)) v) (others es)) (sym g) u)))

  pub filled_plain : Fills m v p q → IsPlain (es ++ (m, v) ∷ []) q
  filled_plain (fills_alg a e f g) = filled_at 1 _ e refl g (f, read.1, read.2, read.3, read.4, read.5, read.6, read.7)
  filled_plain (fills_crit a e f g) = filled_at 2 _ e refl g (read.0, f, read.2, read.3, read.4, read.5, read.6, read.7)
  filled_plain (fills_content_type a e f g) = filled_at 3 _ e refl g (read.0, read.1, f, read.3, read.4, read.5, read.6, read.7)
  filled_plain (fills_key_id a e f g) = filled_at 4 _ e refl g (read.0, read.1, read.2, f, read.4, read.5, read.6, read.7)
  filled_plain (fills_iv a e f i g) = filled_at 5 _ e refl g (read.0, read.1, read.2, read.3, f, read.5, inr i, read.7)
  filled_plain (fills_partial_iv a e f i g) = filled_at 6 _ e refl g (read.0, read.1, read.2, read.3, read.4, f, inl i, read.7)
  filled_plain (fills_rest c g) =
      from_fields (es ++ (m, v) ∷ []) q (subst (FieldsOf (values_at 6 1 (es ++ (m, v) ∷ [])) (others (es ++ (m, v) ∷ []))) (sym g)
      (subst (λ z. FieldsOf z (others (es ++ (m, v) ∷ [])) (record p { rest = p.rest ++ (m, v) ∷ [] })) (sym (values_old 6 1 es m v (λ k a b. not_at k m (omega (arith, a)) (omega (arith, b)) c (bool_cases (is_at k m)))))
      (read.0, read.1, read.2, read.3, read.4, read.5, read.6, ap (λ z. z ++ (m, v) ∷ []) read.7 ∙ sym (others_more es m v c))))

pub signed_plain : (es : List (LabelFields × Tree)) (p : Plain) (v : Tree) → IsPlain es p → IsPlain (es ++ (number (pos 7), v) ∷ []) p
signed_plain es p v = kept_plain es (es ++ (number (pos 7), v) ∷ []) p (values_old 6 1 es (number (pos 7)) v (λ k a b. unlike k 7 (λ q. omega (arith, b, q)))) (others_core es (number (pos 7)) v refl)

pub none_plain : IsPlain [] no_plain
none_plain = from_fields [] no_plain (refl, refl, refl, refl, refl, refl, inl refl, refl)

-- ---- all entries are written as they were read
-- the values at f labels from n on, and then those of labels without a field of their own
abbrev pub gather : ℕ → ℕ → List (LabelFields × Tree) → List (LabelFields × Tree)
gather f n es = entries_from n (values_at f n es) (others es)

pub fields_are : (es : List (LabelFields × Tree)) (p : Plain) (o : Option Tree) → IsPlain es p → written_entries p o ≡ entries_from 1 (values_at 6 1 es ++ o ∷ []) (others es)
fields_are es p o w = λ i. entries_from 1 (values_read es p w i ++ o ∷ []) (w.rest i)
