-- The entries of a map one after another, and the fields that they give.
use Rattle.std.proofs.Common.{◌≡◌, ◌≢◌, ℕ, pos, negsuc, ◌⊎◌, inl, inr, ⊎_elim, List, [], ◌∷◌, ◌++◌, Bool, true, false, cond, Option, Some, None, option_map, option_and_then, refl, sym, ap, subst, ◌∙◌}
use Rattle.std.specs.Prelude.{◌||◌}
use borrow.Author.Tests.{eqb-true}
use Rattle.ciborium_value.specs.Tree.{Tree}
use Rattle.ciborium_value.specs.View.{pairs}
use Rattle.coset_labels.specs.Entries.{is_label, is_name, entries, at, IsIn, Distinct, others, IsField}
use Rattle.coset_labels.specs.Fields.{LabelFields, number, words, Named, private_use, assigned, named}

pub is_label_is : (n : ℕ) (m : LabelFields) → is_label n m ≡ true → m ≡ number (pos n)
is_label_is n (number (pos k)) e = ap (λ z. number (pos z)) (sym (eqb-true n k e))
is_label_is n (number (negsuc k)) e = cc
is_label_is n (words b) e = cc

pub is_name_is : (n : ℕ) (m : Named) → is_name n m ≡ true → m ≡ assigned (pos n)
is_name_is n (assigned (pos k)) e = ap (λ z. assigned (pos z)) (sym (eqb-true n k e))
is_name_is n (assigned (negsuc k)) e = cc
is_name_is n (private_use i) e = cc
is_name_is n (named b) e = cc

pub label_only : (n : ℕ) (m : LabelFields) → is_label n m ≡ true → (k : LabelFields) → is_label n k ≡ true → m ≡ k
label_only n m e k f = is_label_is n m e ∙ sym (is_label_is n k f)

pub name_only : (n : ℕ) (m : Named) → is_name n m ≡ true → (k : Named) → is_name n k ≡ true → m ≡ k
name_only n m e k f = is_name_is n m e ∙ sym (is_name_is n k f)

pub cond_none : (b : Bool) (x : Tree) (y z : Option Tree) → cond b (Some x) y ≡ None → (y ≡ None) × (cond b (Some x) z ≡ z)
cond_none true x y z e = let h : Some x ≡ None = e in cc
cond_none false x y z e = (e, refl)

pub bool_cases : (b : Bool) → (b ≡ true) ⊎ (b ≡ false)
bool_cases true = inl refl
bool_cases false = inr refl

or_left : (a b : Bool) → (a || b) ≡ false → a ≡ false
or_left true b e = e
or_left false b e = refl

or_right : (a b : Bool) → (a || b) ≡ false → b ≡ false
or_right true b e = let h : true ≡ false = e in cc
or_right false b e = e

-- none of the numbers 1 to 7
pub record NoneOfSeven (f : ℕ → Bool) : Type 0 where
  pub no_1 : f 1 ≡ false
  pub no_2 : f 2 ≡ false
  pub no_3 : f 3 ≡ false
  pub no_4 : f 4 ≡ false
  pub no_5 : f 5 ≡ false
  pub no_6 : f 6 ≡ false
  pub no_7 : f 7 ≡ false

pub none_of_seven : (f : ℕ → Bool) → (f 1 || (f 2 || (f 3 || (f 4 || (f 5 || (f 6 || f 7)))))) ≡ false → NoneOfSeven f
none_of_seven f c =
    let c1 = or_right (f 1) _ c in
    let c2 = or_right (f 2) _ c1 in
    let c3 = or_right (f 3) _ c2 in
    let c4 = or_right (f 4) _ c3 in
    let c5 = or_right (f 5) _ c4 in
    let c6 = or_right (f 6) _ c5 in
    record {
      no_1 = or_left (f 1) _ c;
      no_2 = or_left (f 2) _ c1;
      no_3 = or_left (f 3) _ c2;
      no_4 = or_left (f 4) _ c3;
      no_5 = or_left (f 5) _ c4;
      no_6 = or_left (f 6) _ c5;
      no_7 = c6;
    }

-- ---- one more item, if all are there
pub snoc_step : {A B : Type 0} (f : A → B) (o : Option A) (w u : Option (List B)) (bs : List B) (x : B) → ((cs : List B) → w ≡ Some cs → u ≡ Some (cs ++ x ∷ []))
    → option_and_then (λ a. option_map (λ cs. f a ∷ cs) w) o ≡ Some bs → option_and_then (λ a. option_map (λ cs. f a ∷ cs) u) o ≡ Some (bs ++ x ∷ [])
snoc_step f (Some a) (Some cs) u bs x k e =
    let h : Some (f a ∷ cs) ≡ Some bs = e in
    let same : f a ∷ cs ≡ bs = cc in
    ap (option_map (λ cs. f a ∷ cs)) (k cs refl) ∙ ap (λ z. Some (z ++ x ∷ [])) same
snoc_step f o w u bs x k e = let h : None ≡ Some bs = e in absurd (let g : ⊥ = cc in g)

-- ---- one more entry
module _ {K : Type 0} (read : Tree → Option K) where
  pub entries_snoc : (bs : List (Tree × Tree)) (es : List (K × Tree)) (l v : Tree) (m : K) → entries read (pairs bs) ≡ Some es → read l ≡ Some m
      → entries read (pairs (bs ++ (l, v) ∷ [])) ≡ Some (es ++ (m, v) ∷ [])
  entries_snoc [] es l v m e q =
      let n : Some [] ≡ Some es = e in
      let same : [] ≡ es = cc in
      ap (λ o. option_and_then (λ m. option_map (λ es. (m, v) ∷ es) (Some [])) o) q ∙ ap (λ z. Some (z ++ (m, v) ∷ [])) same
  entries_snoc (b ∷ bs) es l v m e q = snoc_step (λ n. (n, b.1)) (read b.0) (entries read (pairs bs)) (entries read (pairs (bs ++ (l, v) ∷ []))) es (m, v) (λ fs h. entries_snoc bs fs l v m h q) e

module _ {K : Type 0} (is : K → Bool) where
  pub at_old : (es : List (K × Tree)) (m : K) (v : Tree) → is m ≡ false → at is (es ++ (m, v) ∷ []) ≡ at is es
  at_old [] m v e = ap (λ b. cond {A = Option Tree} b (Some v) None) e
  at_old (x ∷ es) m v e = ap (λ z. cond (is x.0) (Some x.1) z) (at_old es m v e)

  pub at_new : (es : List (K × Tree)) (m : K) (v : Tree) → is m ≡ true → at is es ≡ None → at is (es ++ (m, v) ∷ []) ≡ Some v
  at_new [] m v e h = ap (λ b. cond {A = Option Tree} b (Some v) None) e
  at_new (x ∷ es) m v e h = let c = cond_none (is x.0) x.1 (at is es) (at is (es ++ (m, v) ∷ [])) h in c.1 ∙ at_new es m v e c.0

  at_none_step : (m : K) (x : K × Tree) (o : Option Tree) → (is x.0 ≡ true → m ≡ x.0) → ((m ≡ x.0) → ⊥) → o ≡ None → (is x.0 ≡ true) ⊎ (is x.0 ≡ false) → cond (is x.0) (Some x.1) o ≡ None
  at_none_step m x o s d h (inl t) = absurd (d (s t))
  at_none_step m x o s d h (inr f) = ap (λ b. cond b (Some x.1) o) f ∙ h

  -- nothing is at a key that no entry has, if it is the only such key
  pub at_none : (es : List (K × Tree)) (m : K) → ((k : K) → is k ≡ true → m ≡ k) → (IsIn m es → ⊥) → at is es ≡ None
  at_none [] m s d = refl
  at_none (x ∷ es) m s d = at_none_step m x (at is es) (s x.0) (λ q. d (inl q)) (at_none es m s (λ i. d (inr i))) (bool_cases (is x.0))

  cond_append : (b : Bool) (xs ys zs : List (K × Tree)) → cond b (xs ++ zs) (ys ++ zs) ≡ cond b xs ys ++ zs
  cond_append true xs ys zs = refl
  cond_append false xs ys zs = refl

  pub others_own : (es : List (K × Tree)) (m : K) (v : Tree) → is m ≡ true → others is (es ++ (m, v) ∷ []) ≡ others is es
  others_own [] m v e = ap (λ b. cond {A = List (K × Tree)} b [] ((m, v) ∷ [])) e
  others_own (x ∷ es) m v e = ap (λ z. cond (is x.0) z (x ∷ z)) (others_own es m v e)

  pub others_more : (es : List (K × Tree)) (m : K) (v : Tree) → is m ≡ false → others is (es ++ (m, v) ∷ []) ≡ others is es ++ (m, v) ∷ []
  others_more [] m v e = ap (λ b. cond {A = List (K × Tree)} b [] ((m, v) ∷ [])) e
  others_more (x ∷ es) m v e = ap (λ z. cond (is x.0) z (x ∷ z)) (others_more es m v e) ∙ cond_append (is x.0) (others is es) (x ∷ others is es) ((m, v) ∷ [])

  in_kept : (b : Bool) (l : K) (e : K × Tree) (es zs : List (K × Tree)) → (IsIn l zs → IsIn l es) → IsIn l (cond b zs (e ∷ zs)) → IsIn l (e ∷ es)
  in_kept true l e es zs f i = inr (f i)
  in_kept false l e es zs f (inl q) = inl q
  in_kept false l e es zs f (inr i) = inr (f i)

  in_others : (l : K) (es : List (K × Tree)) → IsIn l (others is es) → IsIn l es
  in_others l [] i = i
  in_others l (e ∷ es) i = in_kept (is e.0) l e es (others is es) (in_others l es) i

  distinct_kept : (b : Bool) (e : K × Tree) (zs : List (K × Tree)) → Distinct zs → (IsIn e.0 zs → ⊥) → Distinct (cond b zs (e ∷ zs))
  distinct_kept true e zs d n = d
  distinct_kept false e zs d n = (n, d)

  pub distinct_others : (es : List (K × Tree)) → Distinct es → Distinct (others is es)
  distinct_others [] d = tt
  distinct_others (e ∷ es) d = distinct_kept (is e.0) e (others is es) (distinct_others es d.1) (λ i. d.0 (in_others e.0 es i))

module _ {K : Type 0} where
  pub in_front : (l : K) (es fs : List (K × Tree)) → IsIn l es → IsIn l (es ++ fs)
  in_front l [] fs i = absurd i
  in_front l (e ∷ es) fs (inl q) = inl q
  in_front l (e ∷ es) fs (inr i) = inr (in_front l es fs i)

  pub in_last : (l m : K) (es : List (K × Tree)) (v : Tree) → l ≡ m → IsIn l (es ++ (m, v) ∷ [])
  in_last l m [] v e = inl e
  in_last l m (x ∷ es) v e = inr (in_last l m es v e)

  pub in_snoc : (l m : K) (es : List (K × Tree)) (v : Tree) → IsIn l (es ++ (m, v) ∷ []) → IsIn l es ⊎ (l ≡ m)
  in_snoc l m [] v (inl x) = inr x
  in_snoc l m [] v (inr x) = elim x [ ]
  in_snoc l m (e ∷ es) v (inl x) = inl (inl x)
  in_snoc l m (e ∷ es) v (inr x) = ⊎_elim (λ i. inl (inr i)) (λ q. inr q) (in_snoc l m es v x)

  pub distinct_snoc : (es : List (K × Tree)) (m : K) (v : Tree) → Distinct es → (IsIn m es → ⊥) → Distinct (es ++ (m, v) ∷ [])
  distinct_snoc [] m v d n = (λ i. i, tt)
  distinct_snoc (e ∷ es) m v d n = (λ i. ⊎_elim d.0 (λ q. n (inl (sym q))) (in_snoc e.0 m es v i), distinct_snoc es m v d.1 (λ i. n (inr i)))

-- ---- the fields that stay, and the one that is new
module _ {A : Type 0} (f : Tree → Option A) (absent : A) where
  pub kept : (o u : Option Tree) (x : A) → u ≡ o → IsField f absent o x → IsField f absent u x
  kept o u x e h = subst (λ z. IsField f absent z x) (sym e) h

  pub made : (o : Option Tree) (v : Tree) (x : A) → o ≡ Some v → f v ≡ Some x → IsField f absent o x
  made o v x e h = subst (λ z. IsField f absent z x) (sym e) h

  pub there : (o : Option Tree) (x : A) → IsField f absent o x → x ≢ absent → (c : Tree) × (o ≡ Some c)
  there None x h n = absurd (n h)
  there (Some c) x h n = (c, refl)

  pub field_once : (o : Option Tree) (x y : A) → IsField f absent o x → IsField f absent o y → x ≡ y
  field_once None x y a b = a ∙ sym b
  field_once (Some t) x y a b = let e : Some x ≡ Some y = sym a ∙ b in cc
