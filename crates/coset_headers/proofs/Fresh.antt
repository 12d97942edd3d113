-- Whether the label of an entry is new, by the fields that the entries before gave.
use Rattle.std.proofs.Common.{◌≡◌, ℕ, pos, cond, inl, inr, ◌⊎◌, ⊎_elim, ◌+◌, ◌<◌, ◌≤◌, zero, suc, List, [], ◌∷◌, ◌++◌, length, map, Bool, true, false, Option, Some, None, refl, sym, ap, subst, ◌∙◌, arith, append_assoc, length-append, take, take_all, get_or, is_some, not, is_eq}
use Rattle.std.specs.Prelude.{MatchBool}
use Rattle.coset_labels.specs.Orders.{label_cmp}
use Rattle.coset_labels.specs.Facts.Orders.{labels_same}
use Rattle.std.proofs.lemmas.List.{length-map, map-append, take_more, take-append-le}
use Rattle.ciborium_value.specs.declared.value.Value.{Value}
use Rattle.ciborium_value.specs.Tree.{Tree}
use Rattle.coset_labels.specs.Facts.Entries.{label_only, in_front, in_snoc}
use Rattle.coset_labels.specs.Fields.{LabelFields, number}
use Rattle.coset_labels.specs.View.{label_view}
use Rattle.coset_labels.specs.declared.label.Label.{Label}
use Rattle.coset_labels.specs.declared.seen_labels.SeenLabels.{SeenLabels}
use Rattle.coset_headers.specs.Fields.{Plain, header, no_plain, no_header, Signatures, no_signatures, signature_more}
use Rattle.coset_headers.specs.Headers.{is_at, is_core, at, IsIn, others, IsPlain, HasSigned}
use Rattle.coset_headers.specs.Parts.{plain_of, signs_of, SeesLabels, Sees, SeesMany, IsFresh, Known}
use Rattle.coset_headers.specs.View.{header_view, entry_view}
use Rattle.coset_headers.specs.Written.{is_unsigned}
use Rattle.coset_headers.specs.Values.{values_of}
use Rattle.coset_headers.specs.declared.header.Header.{Header}
use Rattle.coset_headers.proofs.Alike.{header_is}
use Rattle.coset_headers.proofs.Entered.{cond_none, bool_cases, alike, none_plain, others_core, others_more, values_at, values_read}
use Rattle.coset_headers.proofs.Unset.{twice_not}
use Rattle.coset_headers.proofs.Wrote.{value_at}

-- ---- at the beginning
pub sees_none : (s : SeenLabels Label) → SeesLabels s [] → Sees s []
sees_none s a = record { few = []; more = []; are = refl; at_most = omega arith; full = inr refl; sees = a }

pub known_none : (n : ℕ) (h : Header) (k : ℕ) → header_view h ≡ no_header → Known n [] (plain_of h) (signs_of h) k
known_none n h k q =
    let e : header (plain_of h) (signs_of h) ≡ header no_plain no_signatures = sym (header_is h) ∙ q in
    let p : no_plain ≡ plain_of h = cc in
    let s : no_signatures ≡ signs_of h = cc in
    record { distinct = tt; plain = subst (IsPlain []) p none_plain; signed = subst (λ z. HasSigned n None z k) s refl }

-- ---- a label with a field of its own
none_in : (i : ℕ) (es : List (LabelFields × Tree)) (m : LabelFields) → is_at i m ≡ true → at i es ≡ None → IsIn m es → ⊥
none_in i [] m s e p = p
none_in i (x ∷ es) m s e (inl q) =
    let h : Some x.1 ≡ None = sym (ap (λ b. cond {A = Option Tree} b (Some x.1) (at i es)) (ap (is_at i) (sym q) ∙ s)) ∙ e in cc
none_in i (x ∷ es) m s e (inr p) = let c = cond_none (is_at i x.0) x.1 (at i es) None e in none_in i es m s c.0 p

some_step : (i : ℕ) (x : LabelFields × Tree) (es : List (LabelFields × Tree)) (m : LabelFields) (c : Tree) → is_at i m ≡ true → (at i es ≡ Some c → IsIn m es) → at i (x ∷ es) ≡ Some c
    → (is_at i x.0 ≡ true) ⊎ (is_at i x.0 ≡ false) → IsIn m (x ∷ es)
some_step i x es m c s r e (inl t) = inl (label_only i m s x.0 t)
some_step i x es m c s r e (inr f) = inr (r (sym (ap (λ b. cond {A = Option Tree} b (Some x.1) (at i es)) f) ∙ e))

some_in : (i : ℕ) (es : List (LabelFields × Tree)) (m : LabelFields) (c : Tree) → is_at i m ≡ true → at i es ≡ Some c → IsIn m es
some_in i [] m c s e = let h : None ≡ Some c = e in cc
some_in i (x ∷ es) m c s e = some_step i x es m c s (some_in i es m c s) e (bool_cases (is_at i x.0))

fresh_true : (es : List (LabelFields × Tree)) (m : LabelFields) (s : SeenLabels Label) (b : Bool) (i : ℕ) → is_at i m ≡ true → is_core m ≡ true → Sees s es → b ≡ true → at i es ≡ None → IsFresh m es s b
fresh_true es m s b i a c g e o = subst (IsFresh m es s) (sym e) (none_in i es m a o, λ v. subst (SeesMany s) (sym (others_core es m v c)) g)

fresh_false : (es : List (LabelFields × Tree)) (m : LabelFields) (s : SeenLabels Label) (b : Bool) (i : ℕ) (t : Tree) → is_at i m ≡ true → b ≡ false → at i es ≡ Some t → IsFresh m es s b
fresh_false es m s b i t a e o = subst (IsFresh m es s) (sym e) (some_in i es m t a o)

signs_test : (n k : ℕ) (o : Option Tree) (ss : Signatures) → HasSigned n o ss k → is_unsigned ss ≡ not (is_some o)
signs_test n k o no_signatures w = ap (λ z. not (is_some z)) (sym w)
signs_test n k o (signature_more x ss) w = ap (λ z. not (is_some z)) (sym w.1)

module _ (n k : ℕ) (es : List (LabelFields × Tree)) (p : Plain) (ss : Signatures) (m : LabelFields) (s : SeenLabels Label) (b : Bool) (w : Known n es p ss k) (g : Sees s es) where
  fresh_value : (i : ℕ) (o : Option Tree) → m ≡ number (pos i) → is_core (number (pos i)) ≡ true → at i es ≡ o → b ≡ not (is_some o) → IsFresh m es s b
  fresh_value i None q c r e = fresh_true es m s b i (ap (is_at i) q ∙ alike i i refl) (ap is_core q ∙ c) g e r
  fresh_value i (Some t) q c r e = fresh_false es m s b i t (ap (is_at i) q ∙ alike i i refl) e r

  -- the values of the fields are those of the entries
  pub fresh_field : (i : ℕ) → m ≡ number (pos i) → is_core (number (pos i)) ≡ true → value_at i 1 (values_at 6 1 es) ≡ at i es → is_some (value_at i 1 (values_of p)) ≡ not b → IsFresh m es s b
  fresh_field i q c r e = fresh_value i (value_at i 1 (values_of p)) q c (sym r ∙ ap (value_at i 1) (sym (values_read es p w.plain))) (twice_not b ∙ ap not (sym e))

  pub fresh_signs : m ≡ number (pos 7) → b ≡ is_unsigned ss → IsFresh m es s b
  fresh_signs q e = fresh_value 7 (at 7 es) q refl refl (e ∙ signs_test n k (at 7 es) ss w.signed)

-- ---- a label without a field of its own
others_by : (x : LabelFields × Tree) (es : List (LabelFields × Tree)) (b : Bool) → is_core x.0 ≡ b → others (x ∷ es) ≡ cond b (others es) (x ∷ others es)
others_by x es b e = ap (λ z. cond {A = List (LabelFields × Tree)} z (others es) (x ∷ others es)) e

other_step : (x : LabelFields × Tree) (es : List (LabelFields × Tree)) (m : LabelFields) → is_core m ≡ false → (IsIn m es → IsIn m (others es)) → IsIn m (x ∷ es)
    → (is_core x.0 ≡ true) ⊎ (is_core x.0 ≡ false) → IsIn m (others (x ∷ es))
other_step x es m c r (inl q) (inl t) = let h : true ≡ false = sym t ∙ ap is_core (sym q) ∙ c in cc
other_step x es m c r (inr p) (inl t) = subst (IsIn m) (sym (others_by x es true t)) (r p)
other_step x es m c r (inl q) (inr f) = subst (IsIn m) (sym (others_by x es false f)) (inl q)
other_step x es m c r (inr p) (inr f) = subst (IsIn m) (sym (others_by x es false f)) (inr (r p))

in_other : (es : List (LabelFields × Tree)) (m : LabelFields) → is_core m ≡ false → IsIn m es → IsIn m (others es)
in_other [] m c p = p
in_other (x ∷ es) m c p = other_step x es m c (in_other es m c) p (bool_cases (is_core x.0))

kept_in : (x : LabelFields × Tree) (es : List (LabelFields × Tree)) (m : LabelFields) → (IsIn m (others es) → IsIn m es) → IsIn m (x ∷ others es) → IsIn m (x ∷ es)
kept_in x es m r (inl q) = inl q
kept_in x es m r (inr p) = inr (r p)

in_step : (x : LabelFields × Tree) (es : List (LabelFields × Tree)) (m : LabelFields) → (IsIn m (others es) → IsIn m es) → IsIn m (others (x ∷ es))
    → (is_core x.0 ≡ true) ⊎ (is_core x.0 ≡ false) → IsIn m (x ∷ es)
in_step x es m r p (inl t) = inr (r (subst (IsIn m) (others_by x es true t) p))
in_step x es m r p (inr f) = kept_in x es m r (subst (IsIn m) (others_by x es false f) p)

other_in : (es : List (LabelFields × Tree)) (m : LabelFields) → IsIn m (others es) → IsIn m es
other_in [] m p = p
other_in (x ∷ es) m p = in_step x es m (other_in es m) p (bool_cases (is_core x.0))

-- what is known of the entries without a field is known of all
pub fresh_other : (es rest : List (LabelFields × Tree)) (m : LabelFields) (s : SeenLabels Label) (b : Bool) → is_core m ≡ false → rest ≡ others es
    → MatchBool b ((IsIn m rest → ⊥) × ((v : Tree) → SeesMany s (rest ++ (m, v) ∷ []))) (IsIn m rest) → IsFresh m es s b
fresh_other es rest m s true c r g =
    (λ p. g.0 (subst (IsIn m) (sym r) (in_other es m c p)), λ v. subst (SeesMany s) (ap (λ z. z ++ (m, v) ∷ []) r ∙ sym (others_more es m v c)) (g.1 v))
fresh_other es rest m s false c r g = other_in es m (subst (IsIn m) r g)

-- ---- the first 64, and those after them
in_both : (m : LabelFields) (xs ys : List (LabelFields × Tree)) → IsIn m (xs ++ ys) → IsIn m xs ⊎ IsIn m ys
in_both m [] ys p = inr p
in_both m (x ∷ xs) ys (inl q) = inl (inl q)
in_both m (x ∷ xs) ys (inr p) = ⊎_elim (λ a. inl (inr a)) (λ b. inr b) (in_both m xs ys p)

in_back : (m : LabelFields) (xs ys : List (LabelFields × Tree)) → IsIn m ys → IsIn m (xs ++ ys)
in_back m [] ys p = p
in_back m (x ∷ xs) ys p = inr (in_back m xs ys p)

front_full : (few more rest : List (LabelFields × Tree)) → rest ≡ few ++ more → 64 ≤ length rest → length few ≤ 64 → (length few ≡ 64) ⊎ (more ≡ []) → length few ≡ 64
front_full few more rest q h k (inl e) = e
front_full few more rest q h k (inr e) = let a = ap length q in let b = length-append few more in let d = ap length e in omega (arith, a, b, d, h, k)

take_front : (few more : List (LabelFields × Tree)) (n : ℕ) → length few ≡ n → take n (few ++ more) ≡ few
take_front few more n e = take-append-le n few more (omega (arith, e)) ∙ take_all n few (omega (arith, e))

module _ (s : SeenLabels Label) (rest : List (LabelFields × Tree)) (m : LabelFields) (g : SeesMany s rest) (h : 64 ≤ length rest) where
  full_front : length g.few ≡ 64
  full_front = front_full g.few g.more rest g.are h g.at_most g.full

  front_is : take 64 rest ≡ g.few
  front_is = ap (take 64) g.are ∙ take_front g.few g.more 64 full_front

  -- the label is among the first 64
  pub front_again : IsIn m (take 64 rest) → IsIn m rest
  front_again p = subst (IsIn m) (sym g.are) (in_front m g.few g.more (subst (IsIn m) front_is p))

  -- the label is not among the first 64, and was looked for in the set of the others
  pub more_fresh : (new : SeenLabels Label) (b : Bool) → (IsIn m (take 64 rest) → ⊥)
      → MatchBool b ((IsIn m g.more → ⊥) × ((v : Tree) → SeesLabels new (g.more ++ (m, v) ∷ []))) (IsIn m g.more × SeesLabels new g.more)
      → MatchBool b ((IsIn m rest → ⊥) × ((v : Tree) → SeesMany new (rest ++ (m, v) ∷ []))) (IsIn m rest)
  more_fresh new true n w = (
    λ p. ⊎_elim (λ a. n (subst (IsIn m) (sym front_is) a)) w.0 (in_both m g.few g.more (subst (IsIn m) g.are p)),
    λ v. record {
      few = g.few;
      more = g.more ++ (m, v) ∷ [];
      are = ap (λ z. z ++ (m, v) ∷ []) g.are ∙ append_assoc g.few g.more ((m, v) ∷ []);
      at_most = g.at_most;
      full = inl full_front;
      sees = w.1 v;
    },
  )
  more_fresh new false n w = subst (IsIn m) (sym g.are) (in_back m g.few g.more w.0)

-- ---- a label among entries that are compared one by one
pub among_here : (m : LabelFields) (es : List (Label × Value)) (i : ℕ) (d : Label × Value) → i < length es → m ≡ label_view (get_or es i d).0 → IsIn m (map entry_view es)
among_here m [] i d h e = absurd (omega (arith, h))
among_here m (x ∷ es) zero d h e = inl e
among_here m (x ∷ es) (suc i) d h e = inr (among_here m es i d (omega (arith, h)) e)

pub among_more : (m : LabelFields) (es : List (Label × Value)) (i : ℕ) (d : Label × Value) → i < length es → (IsIn m (map entry_view (take i es)) → ⊥) → (m ≡ label_view (get_or es i d).0 → ⊥)
    → IsIn m (map entry_view (take (i + 1) es)) → ⊥
among_more m es i d h n k p =
    let same : map entry_view (take (i + 1) es) ≡ map entry_view (take i es) ++ entry_view (get_or es i d) ∷ [] = ap (map entry_view) (take_more es i d h) ∙ map-append entry_view (take i es) (get_or es i d ∷ []) in
    ⊎_elim n k (in_snoc m (label_view (get_or es i d).0) (map entry_view (take i es)) (entry_view (get_or es i d)).1 (subst (IsIn m) same p))

pub differs : (l m : LabelFields) → is_eq (label_cmp l m) ≡ false → (l ≡ m) → ⊥
differs l m e q = let h : is_eq (label_cmp l m) ≡ true = (labels_same l m).1 q in let k : true ≡ false = sym h ∙ e in cc

pub front_long : (es : List (Label × Value)) → 64 ≤ length es → 64 ≤ length (map entry_view es)
front_long es h = let e = length-map es entry_view in omega (arith, e, h)
