-- What is written of a header that was read fits heads if the value did, and is no longer.
use Rattle.std.proofs.Common.{◌≡◌, ℕ, pos, ◌+◌, ◌^◌, ◌<◌, ◌≤◌, ◌⊎◌, inl, inr, List, [], ◌∷◌, ◌++◌, length, map, Bool, true, false, cond, Option, Some, None, refl, sym, ap, subst, ◌∙◌, arith, length-append}
use Rattle.std.specs.Prelude.{◌||◌}
use Rattle.ciborium_ll.specs.Title.{shortest}
use Rattle.ciborium_value.specs.Tree.{Tree, bytes, array, map as map_tree, Trees, no_trees, one_more, tree_count, pair_count}
use Rattle.ciborium_value.specs.View.{pairs}
use Rattle.ciborium_value.specs.Encoding.{enc, enc_all, enc_pairs, Fits, FitAll, FitPairs}
use Rattle.coset_labels.specs.Fields.{LabelFields, number}
use Rattle.coset_labels.specs.Labels.{label_tree}
use Rattle.coset_headers.specs.Fields.{Plain, HeaderFields, header, SignatureFields, signature, Signatures, no_signatures, signature_more}
use Rattle.coset_headers.specs.Headers.{is_at, is_core, at, IsIn, Distinct, others, IsPlain, list_of_three, HasHeader, HasSignature, HasSigned, HasSignatures}
use Rattle.coset_headers.specs.Written.{entry_of, written_entries, entry_tree, bare_or_list, header_tree, shown, signature_tree, signature_trees}
use Rattle.coset_headers.proofs.Again.{header_parts, signature_parts, trees_parts, prot_again}
use Rattle.coset_headers.proofs.Entered.{is_at_is, at_none, bool_cases, no_core, fields_are}
use Rattle.coset_headers.proofs.Fielded.{entries_are}
use Rattle.coset_headers.proofs.Sound.{none_more}

-- u, which is written for t, fits heads if t does, and is no longer
pub record Kept (t u : Tree) : Type 0 where
  pub fits : Fits t → Fits u
  pub size : length (enc u) ≤ length (enc t)

pub record KeptAll (ts us : Trees) : Type 0 where
  pub fits : FitAll ts → FitAll us
  pub count : tree_count us ≡ tree_count ts
  pub size : length (enc_all us) ≤ length (enc_all ts)

pub same_kept : (t : Tree) → Kept t t
same_kept t = record { fits = λ f. f; size = omega arith }

pub none_kept : KeptAll no_trees no_trees
none_kept = record { fits = λ f. f; count = refl; size = omega arith }

pub more_kept : (t u : Tree) (ts us : Trees) → Kept t u → KeptAll ts us → KeptAll (one_more t ts) (one_more u us)
more_kept t u ts us a b =
    let h = a.size in let k = b.size in let c = b.count in
    record {
      fits = λ f. (a.fits f.0, b.fits f.1);
      count = omega (arith, c);
      size = omega (arith, h, k, length-append (enc t) (enc_all ts), length-append (enc u) (enc_all us));
    }

pub array_kept : (ts us : Trees) → KeptAll ts us → Kept (array ts) (array us)
array_kept ts us a =
    let k = a.size in
    let c : length (shortest 4 (tree_count us)) ≡ length (shortest 4 (tree_count ts)) = ap (λ n. length (shortest 4 n)) a.count in
    record {
      fits = λ f. (subst (λ n. n < 2 ^ 64) (sym a.count) f.0, a.fits f.1);
      size = omega (arith, k, c, length-append (shortest 4 (tree_count ts)) (enc_all ts), length-append (shortest 4 (tree_count us)) (enc_all us));
    }

-- ---- what was read is written with the same trees
some_same : {A : Type 0} (x y : A) → Some x ≡ Some y → x ≡ y
some_same x y e = cc

no_some : {A : Type 0} (x : A) → None ≡ Some x → ⊥
no_some x e = cc

-- the entries that are written: those of the labels 1 to 6 as they were read, the signatures, and
-- the others
abbrev in_order : List (LabelFields × Tree) → Option Tree → List (LabelFields × Tree)
in_order es o = entry_of 1 (at 1 es) ++ (entry_of 2 (at 2 es) ++ (entry_of 3 (at 3 es) ++ (entry_of 4 (at 4 es) ++ (entry_of 5 (at 5 es) ++ (entry_of 6 (at 6 es) ++ (entry_of 7 o ++ others es))))))

written_is : (es : List (LabelFields × Tree)) (p : Plain) (o : Option Tree) → IsPlain es p → written_entries p o ≡ in_order es o
written_is = fields_are

-- ---- the place of a label
data Place : LabelFields → Type 0 where
  place_1 : Place (number (pos 1))
  place_2 : Place (number (pos 2))
  place_3 : Place (number (pos 3))
  place_4 : Place (number (pos 4))
  place_5 : Place (number (pos 5))
  place_6 : Place (number (pos 6))
  place_7 : Place (number (pos 7))
  no_place : (l : LabelFields) → is_core l ≡ false → Place l

place_of : (l : LabelFields) → Place l
place_of l = go (bool_cases (is_at 1 l)) (bool_cases (is_at 2 l)) (bool_cases (is_at 3 l)) (bool_cases (is_at 4 l)) (bool_cases (is_at 5 l)) (bool_cases (is_at 6 l)) (bool_cases (is_at 7 l))
  where
    none : is_at 1 l ≡ false → is_at 2 l ≡ false → is_at 3 l ≡ false → is_at 4 l ≡ false → is_at 5 l ≡ false → is_at 6 l ≡ false → is_at 7 l ≡ false → is_core l ≡ false
    none a b c d e f g = λ i. a i || (b i || (c i || (d i || (e i || (f i || g i)))))

    go : (is_at 1 l ≡ true) ⊎ (is_at 1 l ≡ false) → (is_at 2 l ≡ true) ⊎ (is_at 2 l ≡ false) → (is_at 3 l ≡ true) ⊎ (is_at 3 l ≡ false) → (is_at 4 l ≡ true) ⊎ (is_at 4 l ≡ false)
        → (is_at 5 l ≡ true) ⊎ (is_at 5 l ≡ false) → (is_at 6 l ≡ true) ⊎ (is_at 6 l ≡ false) → (is_at 7 l ≡ true) ⊎ (is_at 7 l ≡ false) → Place l
    go (inl x) b c d e f g = subst Place (sym (is_at_is 1 l x)) place_1
    go (inr a) (inl x) c d e f g = subst Place (sym (is_at_is 2 l x)) place_2
    go (inr a) (inr b) (inl x) d e f g = subst Place (sym (is_at_is 3 l x)) place_3
    go (inr a) (inr b) (inr c) (inl x) e f g = subst Place (sym (is_at_is 4 l x)) place_4
    go (inr a) (inr b) (inr c) (inr d) (inl x) f g = subst Place (sym (is_at_is 5 l x)) place_5
    go (inr a) (inr b) (inr c) (inr d) (inr e) (inl x) g = subst Place (sym (is_at_is 6 l x)) place_6
    go (inr a) (inr b) (inr c) (inr d) (inr e) (inr f) (inl x) = subst Place (sym (is_at_is 7 l x)) place_7
    go (inr a) (inr b) (inr c) (inr d) (inr e) (inr f) (inr g) = no_place l (none a b c d e f g)

-- ---- sums over entries
module _ (size_of : LabelFields × Tree → ℕ) where
  abbrev sum : List (LabelFields × Tree) → ℕ
  sum [] = 0
  sum (e ∷ es) = size_of e + sum es

  sum_append : (xs ys : List (LabelFields × Tree)) → sum (xs ++ ys) ≡ sum xs + sum ys
  sum_append [] ys = omega arith
  sum_append (x ∷ xs) ys = let h = sum_append xs ys in omega (arith, h)

  abbrev part : ℕ → Option Tree → ℕ
  part n o = sum (entry_of n o)

  abbrev total : List (LabelFields × Tree) → Option Tree → ℕ
  total es o = part 1 (at 1 es) + (part 2 (at 2 es) + (part 3 (at 3 es) + (part 4 (at 4 es) + (part 5 (at 5 es) + (part 6 (at 6 es) + (part 7 o + sum (others es)))))))

  total_order : (es : List (LabelFields × Tree)) (o : Option Tree) → sum (in_order es o) ≡ total es o
  total_order es o =
      let g7 = sum_append (entry_of 7 o) (others es) in
      let t7 = entry_of 7 o ++ others es in
      let g6 = sum_append (entry_of 6 (at 6 es)) t7 in
      let t6 = entry_of 6 (at 6 es) ++ t7 in
      let g5 = sum_append (entry_of 5 (at 5 es)) t6 in
      let t5 = entry_of 5 (at 5 es) ++ t6 in
      let g4 = sum_append (entry_of 4 (at 4 es)) t5 in
      let t4 = entry_of 4 (at 4 es) ++ t5 in
      let g3 = sum_append (entry_of 3 (at 3 es)) t4 in
      let t3 = entry_of 3 (at 3 es) ++ t4 in
      let g2 = sum_append (entry_of 2 (at 2 es)) t3 in
      let g1 = sum_append (entry_of 1 (at 1 es)) (entry_of 2 (at 2 es) ++ t3) in
      omega (arith, g1, g2, g3, g4, g5, g6, g7)

  -- the part of a label that is in front
  none_part : (n : ℕ) (es : List (LabelFields × Tree)) → is_at n (number (pos n)) ≡ true → (IsIn (number (pos n)) es → ⊥) → part n (at n es) ≡ 0
  none_part n es e f = ap (part n) (at_none n es (number (pos n)) e f)

  total_step : (l : LabelFields) (v : Tree) (es : List (LabelFields × Tree)) → Place l → (IsIn l es → ⊥) → total es (at 7 es) ≡ sum es → total ((l, v) ∷ es) (at 7 ((l, v) ∷ es)) ≡ sum ((l, v) ∷ es)
  total_step _ v es place_1 f h = let q = none_part 1 es refl f in omega (arith, h, q)
  total_step _ v es place_2 f h = let q = none_part 2 es refl f in omega (arith, h, q)
  total_step _ v es place_3 f h = let q = none_part 3 es refl f in omega (arith, h, q)
  total_step _ v es place_4 f h = let q = none_part 4 es refl f in omega (arith, h, q)
  total_step _ v es place_5 f h = let q = none_part 5 es refl f in omega (arith, h, q)
  total_step _ v es place_6 f h = let q = none_part 6 es refl f in omega (arith, h, q)
  total_step _ v es place_7 f h = let q = none_part 7 es refl f in omega (arith, h, q)
  total_step l v es (no_place _ c) f h =
      let o = no_core l c in
      let p1 = ap (λ b. part 1 (cond b (Some v) (at 1 es))) o.no_1 in
      let p2 = ap (λ b. part 2 (cond b (Some v) (at 2 es))) o.no_2 in
      let p3 = ap (λ b. part 3 (cond b (Some v) (at 3 es))) o.no_3 in
      let p4 = ap (λ b. part 4 (cond b (Some v) (at 4 es))) o.no_4 in
      let p5 = ap (λ b. part 5 (cond b (Some v) (at 5 es))) o.no_5 in
      let p6 = ap (λ b. part 6 (cond b (Some v) (at 6 es))) o.no_6 in
      let p7 = ap (λ b. part 7 (cond b (Some v) (at 7 es))) o.no_7 in
      let p8 = ap (λ b. sum (cond b (others es) ((l, v) ∷ others es))) c in
      omega (arith, h, p1, p2, p3, p4, p5, p6, p7, p8)

  total_is : (es : List (LabelFields × Tree)) → Distinct es → total es (at 7 es) ≡ sum es
  total_is [] d = refl
  total_is (e ∷ es) d = total_step e.0 e.1 es (place_of e.0) d.0 (total_is es d.1)

  -- what is written, with other signatures
  written_sum : (es : List (LabelFields × Tree)) (p : Plain) (o : Option Tree) → Distinct es → IsPlain es p → sum (written_entries p o) + part 7 (at 7 es) ≡ sum es + part 7 o
  written_sum es p o d h =
      let a : sum (written_entries p o) ≡ total es o = ap sum (written_is es p o h) ∙ total_order es o in
      let b = total_is es d in
      omega (arith, a, b)

-- ---- the two sums that count
abbrev one_each : LabelFields × Tree → ℕ
one_each e = 1

abbrev entry_size : LabelFields × Tree → ℕ
entry_size e = length (enc (label_tree e.0)) + length (enc e.1)

count_is : (es : List (LabelFields × Tree)) → pair_count (pairs (map entry_tree es)) ≡ sum one_each es
count_is [] = refl
count_is (e ∷ es) = let h = count_is es in omega (arith, h)

size_is : (es : List (LabelFields × Tree)) → length (enc_pairs (pairs (map entry_tree es))) ≡ sum entry_size es
size_is [] = refl
size_is (e ∷ es) =
    let h = size_is es in
    let rest = enc_pairs (pairs (map entry_tree es)) in
    omega (arith, h, length-append (enc (label_tree e.0)) (enc e.1 ++ rest), length-append (enc e.1) rest)

-- ---- entries that fit
abbrev EntriesFit : List (LabelFields × Tree) → Type 0
EntriesFit es = FitPairs (pairs (map entry_tree es))

fit_append : (xs ys : List (LabelFields × Tree)) → EntriesFit xs → EntriesFit ys → EntriesFit (xs ++ ys)
fit_append [] ys a b = b
fit_append (x ∷ xs) ys a b = (a.0, a.1, fit_append xs ys a.2 b)

kept_fit : (b : Bool) (e : LabelFields × Tree) (zs : List (LabelFields × Tree)) → Fits (label_tree e.0) → Fits e.1 → EntriesFit zs → EntriesFit (cond b zs (e ∷ zs))
kept_fit true e zs l v s = s
kept_fit false e zs l v s = (l, v, s)

others_fit : (es : List (LabelFields × Tree)) → EntriesFit es → EntriesFit (others es)
others_fit [] s = tt
others_fit (e ∷ es) s = kept_fit (is_core e.0) e (others es) s.0 s.1 (others_fit es s.2)

first_fit : (b : Bool) (x t : Tree) (o : Option Tree) → Fits x → (o ≡ Some t → Fits t) → cond b (Some x) o ≡ Some t → Fits t
first_fit true x t o s k e = subst Fits (some_same x t e) s
first_fit false x t o s k e = k e

at_fit : (n : ℕ) (es : List (LabelFields × Tree)) (t : Tree) → EntriesFit es → at n es ≡ Some t → Fits t
at_fit n [] t s e = absurd (no_some t e)
at_fit n (x ∷ es) t s e = first_fit (is_at n x.0) x.1 t (at n es) s.1 (λ h. at_fit n es t s.2 h) e

field_fit : (n : ℕ) (o : Option Tree) → n < 2 ^ 64 → ((t : Tree) → o ≡ Some t → Fits t) → EntriesFit (entry_of n o)
field_fit n None l f = tt
field_fit n (Some t) l f = (l, f t refl, tt)

order_fit : (es : List (LabelFields × Tree)) (o : Option Tree) → EntriesFit es → ((t : Tree) → o ≡ Some t → Fits t) → EntriesFit (in_order es o)
order_fit es o f g =
    let t7 = entry_of 7 o ++ others es in
    let t6 = entry_of 6 (at 6 es) ++ t7 in
    let t5 = entry_of 5 (at 5 es) ++ t6 in
    let t4 = entry_of 4 (at 4 es) ++ t5 in
    let t3 = entry_of 3 (at 3 es) ++ t4 in
    let t2 = entry_of 2 (at 2 es) ++ t3 in
    fit_append (entry_of 1 (at 1 es)) t2 (field_fit 1 (at 1 es) (omega arith) (λ t e. at_fit 1 es t f e))
    (fit_append (entry_of 2 (at 2 es)) t3 (field_fit 2 (at 2 es) (omega arith) (λ t e. at_fit 2 es t f e))
    (fit_append (entry_of 3 (at 3 es)) t4 (field_fit 3 (at 3 es) (omega arith) (λ t e. at_fit 3 es t f e))
    (fit_append (entry_of 4 (at 4 es)) t5 (field_fit 4 (at 4 es) (omega arith) (λ t e. at_fit 4 es t f e))
    (fit_append (entry_of 5 (at 5 es)) t6 (field_fit 5 (at 5 es) (omega arith) (λ t e. at_fit 5 es t f e))
    (fit_append (entry_of 6 (at 6 es)) t7 (field_fit 6 (at 6 es) (omega arith) (λ t e. at_fit 6 es t f e))
    (fit_append (entry_of 7 o) (others es) (field_fit 7 o (omega arith) g) (others_fit es f)))))))

-- ---- a map
-- the value at 7 and what is written for it
data Signs : Option Tree → Option Tree → Type 0 where
  no_signs : Signs None None
  signs : (t u : Tree) → Kept t u → Signs (Some t) (Some u)

signs_count : (o q : Option Tree) → Signs o q → part one_each 7 q ≡ part one_each 7 o
signs_count _ _ no_signs = refl
signs_count _ _ (signs t u k) = refl

signs_size : (o q : Option Tree) → Signs o q → part entry_size 7 q ≤ part entry_size 7 o
signs_size _ _ no_signs = omega arith
signs_size _ _ (signs t u k) = let h = k.size in omega (arith, h)

signs_fit : (o q : Option Tree) → Signs o q → ((t : Tree) → o ≡ Some t → Fits t) → (t : Tree) → q ≡ Some t → Fits t
signs_fit _ _ no_signs f t e = absurd (no_some t e)
signs_fit _ _ (signs x u k) f t e = subst Fits (some_same u t e) (k.fits (f x refl))

module _ (es : List (LabelFields × Tree)) (p : Plain) (o : Option Tree) (d : Distinct es) (h : IsPlain es p) (s : Signs (at 7 es) o) where
  same_count : pair_count (pairs (map entry_tree (written_entries p o))) ≡ pair_count (pairs (map entry_tree es))
  same_count =
      let a = written_sum one_each es p o d h in
      let b = signs_count (at 7 es) o s in
      let c = count_is es in
      let e = count_is (written_entries p o) in
      omega (arith, a, b, c, e)

  less_size : length (enc_pairs (pairs (map entry_tree (written_entries p o)))) ≤ length (enc_pairs (pairs (map entry_tree es)))
  less_size =
      let a = written_sum entry_size es p o d h in
      let b = signs_size (at 7 es) o s in
      let c = size_is es in
      let e = size_is (written_entries p o) in
      omega (arith, a, b, c, e)

  fit_written : EntriesFit es → EntriesFit (written_entries p o)
  fit_written f = subst EntriesFit (sym (written_is es p o h)) (order_fit es o f (signs_fit (at 7 es) o s (λ t e. at_fit 7 es t f e)))

  map_kept : Kept (map_tree (pairs (map entry_tree es))) (map_tree (pairs (map entry_tree (written_entries p o))))
  map_kept =
      let ps = pairs (map entry_tree es) in
      let qs = pairs (map entry_tree (written_entries p o)) in
      let k = less_size in
      let c : length (shortest 5 (pair_count qs)) ≡ length (shortest 5 (pair_count ps)) = ap (λ n. length (shortest 5 n)) same_count in
      record {
        fits = λ f. (subst (λ n. n < 2 ^ 64) (sym same_count) f.0, fit_written f.1);
        size = omega (arith, k, c, length-append (shortest 5 (pair_count ps)) (enc_pairs ps), length-append (shortest 5 (pair_count qs)) (enc_pairs qs));
      }

-- ---- headers and signatures
bare_kept : (t u : Tree) (us : Trees) → Kept t u → us ≡ no_trees → Signs (Some t) (bare_or_list (one_more u us))
bare_kept t u us k e = subst (λ z. Signs (Some t) (bare_or_list (one_more u z))) (sym e) (signs t u k)

list_kept : (t u : Tree) (ts us : Trees) → KeptAll (one_more t ts) (one_more u us) → Signs (Some (array (one_more t ts))) (bare_or_list (one_more u us))
list_kept t u ts no_trees k =
    let h = k.size in
    signs (array (one_more t ts)) u (record {
      fits = λ f. (k.fits f.1).0;
      size = omega (arith, h, length-append (shortest 4 (tree_count (one_more t ts))) (enc_all (one_more t ts)), length-append (enc u) []);
    })
list_kept t u ts (one_more x xs) k = signs (array (one_more t ts)) (array (one_more u (one_more x xs))) (array_kept (one_more t ts) (one_more u (one_more x xs)) k)

mutual
  pub hdr_kept : (n : ℕ) (h : HeaderFields) (t u : Tree) (k : ℕ) → HasHeader n t h k → header_tree h ≡ Some u → Kept t u
  hdr_kept n (header p ss) t u k a e =
      let w = header_parts p (signature_trees ss) u e in
      let o = bare_or_list w.0 in
      let m = map_kept a.1 p o a.4 a.5 (signed_kept n ss (at 7 a.1) w.0 k a.6 w.1) in
      let from : map_tree (pairs (map entry_tree a.1)) ≡ t = ap map_tree (entries_are a.0 a.1 a.3) ∙ sym a.2 in
      subst (λ z. Kept z u) from (subst (λ z. Kept (map_tree (pairs (map entry_tree a.1))) z) w.2 m)

  pub sig_kept : (n : ℕ) (s : SignatureFields) (t u : Tree) (k : ℕ) → HasSignature n t s k → signature_tree s ≡ Some u → Kept t u
  sig_kept n (signature p h c) t u k a e =
      let w = signature_parts (shown p) (header_tree h) c u e in
      let first : Kept a.0 (bytes w.0) = subst (λ z. Kept a.0 z) (prot_again n p a.0 k w.0 a.3 w.2) (same_kept a.0) in
      let second = hdr_kept n h a.1 w.1 k a.4 w.3 in
      let all = more_kept a.0 (bytes w.0) _ _ first (more_kept a.1 w.1 _ _ second (more_kept (bytes c) (bytes c) no_trees no_trees (same_kept (bytes c)) none_kept)) in
      subst (λ z. Kept z u) (sym a.2) (subst (λ z. Kept (array (list_of_three a.0 a.1 (bytes c))) z) w.4 (array_kept (list_of_three a.0 a.1 (bytes c)) (list_of_three (bytes w.0) w.1 (bytes c)) all))

  signed_kept : (n : ℕ) (ss : Signatures) (o : Option Tree) (us : Trees) (k : ℕ) → HasSigned n o ss k → signature_trees ss ≡ Some us → Signs o (bare_or_list us)
  signed_kept n no_signatures o us k a e =
      subst (λ z. Signs z (bare_or_list us)) (sym a) (subst (λ z. Signs None (bare_or_list z)) (some_same no_trees us e) no_signs)
  signed_kept n (signature_more g ss) o us k (ts, is, inl (bare, rest, one)) e =
      let w = trees_parts (signature_tree g) (signature_trees ss) us e in
      let b = bare_kept (array ts) w.0 w.1 (sig_kept n g (array ts) w.0 k one w.2) (none_more ss w.1 rest w.3) in
      subst (λ z. Signs z (bare_or_list us)) (sym is) (subst (λ z. Signs (Some (array ts)) (bare_or_list z)) w.4 b)
  signed_kept n (signature_more g ss) o us k (ts, is, inr (list, more)) e =
      let w = trees_parts (signature_tree g) (signature_trees ss) us e in
      let all = more_kept more.0 w.0 more.1 w.1 (sig_kept n g more.0 w.0 k more.3 w.2) (sigs_kept n ss more.1 w.1 k more.4 w.3) in
      let b = list_kept more.0 w.0 more.1 w.1 all in
      subst (λ z. Signs z (bare_or_list us)) (ap (λ z. Some (array z)) (sym more.2) ∙ sym is) (subst (λ z. Signs (Some (array (one_more more.0 more.1))) (bare_or_list z)) w.4 b)

  pub sigs_kept : (n : ℕ) (ss : Signatures) (ts us : Trees) (k : ℕ) → HasSignatures n ts ss k → signature_trees ss ≡ Some us → KeptAll ts us
  sigs_kept n no_signatures ts us k a e = subst (λ z. KeptAll z us) (sym a) (subst (λ z. KeptAll no_trees z) (some_same no_trees us e) none_kept)
  sigs_kept n (signature_more g ss) ts us k a e =
      let w = trees_parts (signature_tree g) (signature_trees ss) us e in
      let all = more_kept a.0 w.0 a.1 w.1 (sig_kept n g a.0 w.0 k a.3 w.2) (sigs_kept n ss a.1 w.1 k a.4 w.3) in
      subst (λ z. KeptAll z us) (sym a.2) (subst (λ z. KeptAll (one_more a.0 a.1) z) w.4 all)
