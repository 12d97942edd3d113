-- The laws of maps with fields.
use Rattle.std.proofs.Common.{◌≡◌, ℕ, inl, inr, List, [], ◌∷◌, ◌++◌, map, Bool, true, false, ◌||◌, cond, MatchBool, nat_eq, Option, Some, None, option_map, option_and_then, refl, sym, ap, subst, ◌∙◌, arith}
use Rattle.std.proofs.lemmas.Bool.Decides.{nat_tests}
use Rattle.ciborium_value.specs.Tree.{Tree, Pairs, no_pairs, pair_more}
use Rattle.ciborium_value.specs.View.{pairs}
use Rattle.coset_labels.specs.Entries.{entries, at, IsIn, Distinct, others, IsField}
use Rattle.coset_labels.specs.Facts.Entries.{at_old, at_new, at_none, distinct_others}
use Rattle.coset_labels.specs.Table.{entry_of, entries_of}

eq_same : (n : ℕ) → nat_eq n n ≡ true
eq_same n = grind (arith, nat_tests)

same_eq : (m n : ℕ) → nat_eq m n ≡ true → m ≡ n
same_eq m n h = grind (arith, nat_tests, h)

turned : (m n : ℕ) → nat_eq m n ≡ false → nat_eq n m ≡ false
turned m n h = grind (arith, nat_tests, h)

pub clash : {b : Bool} → b ≡ true → b ≡ false → ⊥
clash h g = let e : true ≡ false = sym h ∙ g in cc

or_true : (a b : Bool) → b ≡ true → (a || b) ≡ true
or_true true b h = refl
or_true false b h = h

-- ---- the value at a number, and that no number comes twice
abbrev pub counts : List (ℕ × Option Tree) → ℕ → Bool
counts [] n = false
counts (f ∷ fs) n = nat_eq f.0 n || counts fs n

abbrev pub value_at : List (ℕ × Option Tree) → ℕ → Option Tree
value_at [] n = None
value_at (f ∷ fs) n = cond (nat_eq f.0 n) f.1 (value_at fs n)

abbrev pub IsTable : List (ℕ × Option Tree) → Type 0
IsTable [] = Unit {0}
IsTable (f ∷ fs) = (counts fs f.0 ≡ false) × IsTable fs

first_counts : (f : ℕ × Option Tree) (fs : List (ℕ × Option Tree)) → counts (f ∷ fs) f.0 ≡ true
first_counts f fs = ap (λ b. b || counts fs f.0) (eq_same f.0)

none_at : (fs : List (ℕ × Option Tree)) (n : ℕ) → counts fs n ≡ false → value_at fs n ≡ None
none_at [] n c = refl
none_at (f ∷ fs) n c = by_number (none_at fs n) (nat_eq f.0 n) refl c
  where
    by_number : (counts fs n ≡ false → value_at fs n ≡ None) → (b : Bool) → nat_eq f.0 n ≡ b → (b || counts fs n) ≡ false → cond b f.1 (value_at fs n) ≡ None
    by_number later true q c = let e : true ≡ false = c in cc
    by_number later false q c = later c

was_set : {A : Type 0} (o x : Option A) → option_map Some o ≡ Some x → (a : A) × (o ≡ Some a) × (x ≡ Some a)
was_set None x e = let h : None ≡ Some x = e in cc
was_set (Some a) x e = let h : Some (Some a) ≡ Some x = e in (a, refl, cc)

-- what a field that may be absent is written as says it again
pub optional_back : {A : Type 0} (f : Tree → Option A) (g : A → Tree) → ((t : Tree) (a : A) → f t ≡ Some a → g a ≡ t) → (o : Option Tree) (x : Option A) → IsField (λ t. option_map Some (f t)) None o x
    → IsField (λ t. option_map Some (f t)) None (option_map g x) x
optional_back f g back None x w = subst (λ z. IsField (λ t. option_map Some (f t)) None (option_map g z) z) (sym w) refl
optional_back f g back (Some t) x w =
    let h = was_set (f t) x w in
    subst (λ z. IsField (λ t. option_map Some (f t)) None (option_map g z) z) (sym h.2) (ap (option_map Some) (ap f (back t h.0 h.1) ∙ h.1))

module _ {K : Type 0} (is : ℕ → K → Bool) (key : ℕ → K) (numbered : (n m : ℕ) → is n (key m) ≡ nat_eq n m) (only : (n : ℕ) (m : K) → is n m ≡ true → m ≡ key n) where
  -- ---- one more entry
  pub entered : {A : Type 0} (has : Option Tree → A → Type 0) (k n : ℕ) (es : List (K × Tree)) (v : Tree) (old new : A) → (IsIn (key n) es → ⊥) → has (at (is k) es) old
      → MatchBool (nat_eq k n) (has (Some v) new) (old ≡ new) → has (at (is k) (es ++ (key n, v) ∷ [])) new
  entered {A} has k n es v old new d h c = by_number (nat_eq k n) refl c
    where
      by_number : (b : Bool) → nat_eq k n ≡ b → MatchBool b (has (Some v) new) (old ≡ new) → has (at (is k) (es ++ (key n, v) ∷ [])) new
      by_number true q c =
          let i : is k (key n) ≡ true = numbered k n ∙ q in
          subst (λ z. has z new) (sym (at_new (is k) es (key n) v i (at_none (is k) es (key n) (λ l g. only k (key n) i ∙ sym (only k l g)) d))) c
      by_number false q c = subst (λ z. has z new) (sym (at_old (is k) es (key n) v (numbered k n ∙ q))) (subst (λ z. has (at (is k) es) z) c h)

  pub not_own : (core : K → Bool) (n : ℕ) (m : K) → core (key n) ≡ true → core m ≡ false → is n m ≡ false
  not_own core n m a c = by_test (is n m) refl
    where
      by_test : (b : Bool) → is n m ≡ b → is n m ≡ false
      by_test true i = absurd (clash (ap core (only n m i) ∙ a) c)
      by_test false i = i

  -- the keys of entries can be read
  abbrev pub AreNames : (Tree → Option K) → (K → Tree) → List (K × Tree) → Type 0
  AreNames read tree [] = Unit {0}
  AreNames read tree (e ∷ es) = (read (tree e.0) ≡ Some e.0) × AreNames read tree es

  -- the keys of fields can be read
  abbrev pub AreRead : (Tree → Option K) → (K → Tree) → List (ℕ × Option Tree) → Type 0
  AreRead read tree [] = Unit {0}
  AreRead read tree (f ∷ fs) = (read (tree (key f.0)) ≡ Some (key f.0)) × AreRead read tree fs

  -- ---- written and read again
  module _ (core : K → Bool) (rest : List (K × Tree)) where
    skipped : (n m : ℕ) (o : Option Tree) (ws : List (K × Tree)) → nat_eq m n ≡ false → at (is m) (entry_of key n o ++ ws) ≡ at (is m) ws
    skipped n m None ws q = refl
    skipped n m (Some t) ws q = ap (λ b. cond b (Some t) (at (is m) ws)) (numbered m n ∙ q)

    met : (n : ℕ) (o : Option Tree) (ws : List (K × Tree)) → at (is n) ws ≡ None → at (is n) (entry_of key n o ++ ws) ≡ o
    met n None ws w = w
    met n (Some t) ws w = ap (λ b. cond b (Some t) (at (is n) ws)) (numbered n n ∙ eq_same n)

    pub at_of : (fs : List (ℕ × Option Tree)) (n : ℕ) → IsTable fs → at (is n) rest ≡ None → at (is n) (entries_of key fs rest) ≡ value_at fs n
    at_of [] n t u = u
    at_of (f ∷ fs) n t u = by_number (at_of fs n t.1 u) (nat_eq f.0 n) refl
      where
        by_number : at (is n) (entries_of key fs rest) ≡ value_at fs n → (b : Bool) → nat_eq f.0 n ≡ b → at (is n) (entry_of key f.0 f.1 ++ entries_of key fs rest) ≡ cond b f.1 (value_at fs n)
        by_number later true q =
            let e : f.0 ≡ n = same_eq f.0 n q in
            subst (λ z. at (is n) (entry_of key z f.1 ++ entries_of key fs rest) ≡ f.1) (sym e) (met n f.1 (entries_of key fs rest) (later ∙ none_at fs n (subst (λ z. counts fs z ≡ false) e t.0)))
        by_number later false q = skipped f.0 n f.1 (entries_of key fs rest) (turned f.0 n q) ∙ later

    there_step : (n : ℕ) (x : K × Tree) (o : Option Tree) (b : Bool) → is n x.0 ≡ b → cond b (Some x.1) o ≡ None → (o ≡ None) × (is n x.0 ≡ false)
    there_step n x o true q e = let h : Some x.1 ≡ None = e in cc
    there_step n x o false q e = (e, q)

    not_there : (n : ℕ) (fs : List (K × Tree)) → at (is n) fs ≡ None → IsIn (key n) fs → ⊥
    not_there n [] e i = i
    not_there n (x ∷ fs) e (inl q) = clash (sym (ap (is n) q) ∙ numbered n n ∙ eq_same n) (there_step n x (at (is n) fs) (is n x.0) refl e).1
    not_there n (x ∷ fs) e (inr i) = not_there n fs (there_step n x (at (is n) fs) (is n x.0) refl e).0 i

    still_distinct : (n : ℕ) (o : Option Tree) (ws : List (K × Tree)) → at (is n) ws ≡ None → Distinct ws → Distinct (entry_of key n o ++ ws)
    still_distinct n None ws e d = d
    still_distinct n (Some t) ws e d = (not_there n ws e, d)

    no_other : (n : ℕ) (o : Option Tree) (ws : List (K × Tree)) → core (key n) ≡ true → others core (entry_of key n o ++ ws) ≡ others core ws
    no_other n None ws c = refl
    no_other n (Some t) ws c = ap (λ b. cond b (others core ws) ((key n, t) ∷ others core ws)) c

    distinct_of : (fs : List (ℕ × Option Tree)) → IsTable fs → ((n : ℕ) → counts fs n ≡ true → at (is n) rest ≡ None) → Distinct rest → Distinct (entries_of key fs rest)
    distinct_of [] t u d = d
    distinct_of (f ∷ fs) t u d =
        still_distinct f.0 f.1 (entries_of key fs rest) (at_of fs f.0 t.1 (u f.0 (first_counts f fs)) ∙ none_at fs f.0 t.0)
        (distinct_of fs t.1 (λ m q. u m (or_true (nat_eq f.0 m) (counts fs m) q)) d)

    others_of : (fs : List (ℕ × Option Tree)) → ((n : ℕ) → counts fs n ≡ true → core (key n) ≡ true) → others core (entries_of key fs rest) ≡ others core rest
    others_of [] c = refl
    others_of (f ∷ fs) c = no_other f.0 f.1 (entries_of key fs rest) (c f.0 (first_counts f fs)) ∙ others_of fs (λ m q. c m (or_true (nat_eq f.0 m) (counts fs m) q))

    -- no field's number is among the others
    others_step : (n : ℕ) (x : K × Tree) (es : List (K × Tree)) (b : Bool) → core x.0 ≡ b → core (key n) ≡ true → at (is n) (others core es) ≡ None → at (is n) (cond b (others core es) (x ∷ others core es)) ≡ None
    others_step n x es true q c w = w
    others_step n x es false q c w = ap (λ b. cond b (Some x.1) (at (is n) (others core es))) (not_own (is n x.0) refl) ∙ w
      where
        not_own : (b : Bool) → is n x.0 ≡ b → is n x.0 ≡ false
        not_own true i = absurd (clash (ap core (only n x.0 i) ∙ c) q)
        not_own false i = i

    at_others : (n : ℕ) (es : List (K × Tree)) → core (key n) ≡ true → at (is n) (others core es) ≡ None
    at_others n [] c = refl
    at_others n (x ∷ es) c = others_step n x es (core x.0) refl c (at_others n es c)

    keeps_others : (x : K × Tree) (es : List (K × Tree)) (b : Bool) → core x.0 ≡ b → others core (others core es) ≡ others core es → others core (cond b (others core es) (x ∷ others core es)) ≡ cond b (others core es) (x ∷ others core es)
    keeps_others x es true q w = w
    keeps_others x es false q w = ap (λ b. cond b (others core (others core es)) (x ∷ others core (others core es))) q ∙ ap (λ z. x ∷ z) w

    others_again : (es : List (K × Tree)) → others core (others core es) ≡ others core es
    others_again [] = refl
    others_again (x ∷ es) = keeps_others x es (core x.0) refl (others_again es)

    -- ---- keys that can be read again
    module _ (read : Tree → Option K) (tree : K → Tree) (back : (l : Tree) (m : K) → read l ≡ Some m → tree m ≡ l) where
      abbrev Names : List (K × Tree) → Type 0
      Names = AreNames read tree

      names_step : (l v : Tree) (o : Option K) (w : Option (List (K × Tree))) (es : List (K × Tree)) → read l ≡ o → ((fs : List (K × Tree)) → w ≡ Some fs → Names fs)
          → option_and_then (λ m. option_map (λ es. (m, v) ∷ es) w) o ≡ Some es → Names es
      names_step l v (Some m) (Some fs) es q f e = let h : Some ((m, v) ∷ fs) ≡ Some es = e in let k : (m, v) ∷ fs ≡ es = cc in subst Names k (ap read (back l m q) ∙ q, f fs refl)
      names_step l v o w es q f e = let h : None ≡ Some es = e in cc

      all_names : (ps : Pairs) (es : List (K × Tree)) → entries read ps ≡ Some es → Names es
      all_names no_pairs es e = let h : Some [] ≡ Some es = e in let k : [] ≡ es = cc in subst Names k tt
      all_names (pair_more l v ps) es e = names_step l v (read l) (entries read ps) es refl (all_names ps) e

      read_again : (es : List (K × Tree)) → Names es → entries read (pairs (map (λ e. (tree e.0, e.1)) es)) ≡ Some es
      read_again [] n = refl
      read_again (e ∷ es) n =
          ap (λ o. option_and_then (λ m. option_map (λ es. (m, e.1) ∷ es) (entries read (pairs (map (λ e. (tree e.0, e.1)) es)))) o) n.0 ∙ ap (option_map (λ fs. e ∷ fs)) (read_again es n.1)

      keeps_names : (x : K × Tree) (b : Bool) (fs : List (K × Tree)) → read (tree x.0) ≡ Some x.0 → Names fs → Names (cond b fs (x ∷ fs))
      keeps_names x true fs q w = w
      keeps_names x false fs q w = (q, w)

      names_others : (es : List (K × Tree)) → Names es → Names (others core es)
      names_others [] w = w
      names_others (x ∷ es) w = keeps_names x (core x.0) (others core es) w.0 (names_others es w.1)

      names_add : (n : ℕ) (o : Option Tree) (ws : List (K × Tree)) → read (tree (key n)) ≡ Some (key n) → Names ws → Names (entry_of key n o ++ ws)
      names_add n None ws f w = w
      names_add n (Some t) ws f w = (f, w)

      names_of : (fs : List (ℕ × Option Tree)) → AreRead read tree fs → Names rest → Names (entries_of key fs rest)
      names_of [] k n = n
      names_of (f ∷ fs) k n = names_add f.0 f.1 (entries_of key fs rest) k.0 (names_of fs k.1 n)

  -- what is written of fields, before others that have none of their numbers, can be read again
  pub record ReadAgain (core : K → Bool) (read : Tree → Option K) (tree : K → Tree) (fs : List (ℕ × Option Tree)) (rest ws : List (K × Tree)) : Type 0 where
    pub entries_are : entries read (pairs (map (λ e. (tree e.0, e.1)) ws)) ≡ Some ws
    pub distinct : Distinct ws
    pub others_are : others core ws ≡ others core rest
    pub has : (n : ℕ) → counts fs n ≡ true → at (is n) ws ≡ value_at fs n

  pub wrote : (core : K → Bool) (read : Tree → Option K) (tree : K → Tree) → ((l : Tree) (m : K) → read l ≡ Some m → tree m ≡ l) → (fs : List (ℕ × Option Tree)) → IsTable fs → AreRead read tree fs
      → ((n : ℕ) → counts fs n ≡ true → core (key n) ≡ true) → (rest : List (K × Tree)) → ((n : ℕ) → counts fs n ≡ true → at (is n) rest ≡ None) → Distinct rest → AreNames read tree rest
      → ReadAgain core read tree fs rest (entries_of key fs rest)
  wrote core read tree back fs t k c rest none d names = record {
    entries_are = read_again core rest read tree back (entries_of key fs rest) (names_of core rest read tree back fs k names);
    distinct = distinct_of core rest fs t none d;
    others_are = others_of core rest fs c;
    has = λ n h. at_of core rest fs n t (none n h);
  }

  -- as of the others of a map that was read
  pub again : (core : K → Bool) (read : Tree → Option K) (tree : K → Tree) → ((l : Tree) (m : K) → read l ≡ Some m → tree m ≡ l) → (fs : List (ℕ × Option Tree)) → IsTable fs → AreRead read tree fs
      → ((n : ℕ) → counts fs n ≡ true → core (key n) ≡ true) → (ps : Pairs) (es : List (K × Tree)) → entries read ps ≡ Some es → Distinct es → ReadAgain core read tree fs es (entries_of key fs (others core es))
  again core read tree back fs t k c ps es q d =
      let rest = others core es in
      let names = names_others core rest read tree back es (all_names core rest read tree back ps es q) in
      let w = wrote core read tree back fs t k c rest (λ n h. at_others core rest n es (c n h)) (distinct_others core es d) names in
      record { entries_are = w.entries_are; distinct = w.distinct; others_are = w.others_are ∙ others_again core rest es; has = w.has }
