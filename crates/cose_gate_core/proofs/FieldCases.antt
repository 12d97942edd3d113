-- A value is what a label stands for, or has a fault as that.
use Rattle.std.proofs.Common.{◌≡◌, ◌≢◌, ℕ, ℤ, pos, ◌⊎◌, inl, inr, List, [], ◌∷◌, ◌++◌, Bool, true, false, cond, Some, None, option_map, option_and_then, refl, sym, ap, subst, ◌∙◌}
use Rattle.std.specs.Prelude.{◌||◌}
use Rattle.std.specs.List.{count_by}
use Rattle.std.specs.Str.{trim}
use Rattle.std.specs.Ordering.{is_eq}
use Rattle.std.proofs.lemmas.Bool.{cases_eq}
use Rattle.cose_iana.specs.Algorithms.{is_algorithm}
use Rattle.cose_iana.specs.Formats.{coap_content_formats}
use Rattle.cose_iana.specs.Headers.{header_parameters}
use Rattle.cose_iana.specs.Registry.{is_private_use}
use Rattle.ciborium_value.specs.Tree.{Tree, integer, bytes, text, array, map as map_tree, tag, simple, float, Trees, no_trees, one_more}
use Rattle.ciborium_value.specs.View.{trees}
use Rattle.coset_labels.specs.Fields.{LabelFields, number, words, Named, private_use, assigned, named}
use Rattle.coset_labels.specs.Faults.{CoseFault, out_of_range, unexpected, unregistered, unregistered_private}
use Rattle.coset_labels.specs.Kinds.{some_bytes, WrongBytes}
use Rattle.coset_labels.specs.Labels.{is_i64, label_of, WrongLabel, registered_of, registered_number, WrongRegistered, named_of, named_number, WrongNamed}
use Rattle.coset_labels.specs.Orders.{label_cmp}
use Rattle.coset_labels.specs.Facts.Orders.{labels_same}
use Rattle.coset_headers.specs.Fields.{Plain}
use Rattle.coset_headers.specs.Headers.{is_at, is_core, alg_of, parameter_of, parameters_of, crit_of, is_slash, format_of, HasContentType, IsIn}
use Rattle.coset_headers.specs.Parts.{Fills, fills_alg, fills_crit, fills_content_type, fills_key_id, fills_iv, fills_partial_iv, fills_rest, WrongFill, field_wrong, iv_second, partial_iv_second}
use Rattle.coset_headers.specs.Wrong.{WrongCrit, no_crit_list, empty_crit, bad_crit, WrongContentType, no_content_type, empty_text, white_space, no_one_slash, WrongField, wrong_alg, wrong_crit, wrong_content_type, wrong_key_id, wrong_iv, wrong_partial_iv}
use Rattle.coset_headers.proofs.Entered.{is_at_is, bool_cases}
use Rattle.coset_headers.proofs.Steps.{text_is}

-- a list of trees
abbrev pub list_of : Trees → List Tree
list_of no_trees = []
list_of (one_more t ts) = t ∷ list_of ts

pub list_trees : (ts : Trees) → ts ≡ trees (list_of ts)
list_trees no_trees = refl
list_trees (one_more t ts) = ap (one_more t) (list_trees ts)

-- lists of numbers are the same or not
pub same_lists : (xs ys : List ℕ) → (xs ≡ ys) ⊎ (xs ≢ ys)
same_lists [] [] = inl refl
same_lists [] (y ∷ ys) = inr (λ e. let h : [] ≡ y ∷ ys = e in cc)
same_lists (x ∷ xs) [] = inr (λ e. let h : x ∷ xs ≡ [] = e in cc)
same_lists (x ∷ xs) (y ∷ ys) = both (cases_eq x y) (same_lists xs ys)
  where
    both : (x ≡ y) ⊎ (x ≡ y → ⊥) → (xs ≡ ys) ⊎ (xs ≢ ys) → (x ∷ xs ≡ y ∷ ys) ⊎ (x ∷ xs ≢ y ∷ ys)
    both (inl p) (inl q) = inl (λ i. p i ∷ q i)
    both (inl p) (inr n) = inr (λ e. n (let h : x ∷ xs ≡ y ∷ ys = e in cc))
    both (inr n) q = inr (λ e. n (let h : x ∷ xs ≡ y ∷ ys = e in cc))

pub nil_cases : (xs : List ℕ) → (xs ≡ []) ⊎ (xs ≢ [])
nil_cases [] = inl refl
nil_cases (x ∷ xs) = inr (λ e. let h : x ∷ xs ≡ [] = e in cc)

-- ---- labels and names
pub label_case : (t : Tree) → ((m : LabelFields) × (label_of t ≡ Some m)) ⊎ ((e : CoseFault) × WrongLabel t e)
label_case (integer i) = go (bool_cases (is_i64 i))
  where
    go : (is_i64 i ≡ true) ⊎ (is_i64 i ≡ false) → ((m : LabelFields) × (label_of (integer i) ≡ Some m)) ⊎ ((e : CoseFault) × WrongLabel (integer i) e)
    go (inl e) = inl (number i, ap (λ c. cond c (Some (number i)) None) e)
    go (inr e) = inr (out_of_range, (e, refl))
label_case (text b) = inl (words b, refl)
label_case (bytes b) = inr (unexpected, refl)
label_case (array ts) = inr (unexpected, refl)
label_case (map_tree ps) = inr (unexpected, refl)
label_case (tag n t) = inr (unexpected, refl)
label_case (simple n) = inr (unexpected, refl)
label_case (float f) = inr (unexpected, refl)

pub same_labels : (l m : LabelFields) → (l ≡ m) ⊎ (l ≢ m)
same_labels l m = go (bool_cases (is_eq (label_cmp l m)))
  where
    go : (is_eq (label_cmp l m) ≡ true) ⊎ (is_eq (label_cmp l m) ≡ false) → (l ≡ m) ⊎ (l ≢ m)
    go (inl t) = inl ((labels_same l m).0 t)
    go (inr f) = inr (λ e. let c : false ≡ true = sym f ∙ (labels_same l m).1 e in cc)

pub in_cases : (m : LabelFields) (es : List (LabelFields × Tree)) → IsIn m es ⊎ (IsIn m es → ⊥)
in_cases m [] = inr (λ i. i)
in_cases m (e ∷ es) = both (same_labels m e.0) (in_cases m es)
  where
    neither : (m ≢ e.0) → (IsIn m es → ⊥) → IsIn m (e ∷ es) → ⊥
    neither n o (inl q) = n q
    neither n o (inr i) = o i

    both : (m ≡ e.0) ⊎ (m ≢ e.0) → IsIn m es ⊎ (IsIn m es → ⊥) → IsIn m (e ∷ es) ⊎ (IsIn m (e ∷ es) → ⊥)
    both (inl q) o = inl (inl q)
    both (inr n) (inl i) = inl (inr i)
    both (inr n) (inr o) = inr (neither n o)

module _ (r p : ℤ → Bool) where
  named_case : (t : Tree) → ((m : Named) × (named_of r p t ≡ Some m)) ⊎ ((e : CoseFault) × WrongNamed r p t e)
  named_case (integer i) = go (bool_cases (is_i64 i)) (bool_cases (r i)) (bool_cases (p i))
    where
      small : is_i64 i ≡ true → named_of r p (integer i) ≡ named_number r p i
      small e = ap (λ c. cond c (named_number r p i) None) e

      go : (is_i64 i ≡ true) ⊎ (is_i64 i ≡ false) → (r i ≡ true) ⊎ (r i ≡ false) → (p i ≡ true) ⊎ (p i ≡ false) → ((m : Named) × (named_of r p (integer i) ≡ Some m)) ⊎ ((e : CoseFault) × WrongNamed r p (integer i) e)
      go (inr e) f g = inr (out_of_range, inl (e, refl))
      go (inl e) (inl f) g = inl (assigned i, small e ∙ ap (λ c. cond c (Some (assigned i)) (cond (p i) (Some (private_use i)) None)) f)
      go (inl e) (inr f) (inl g) = inl (private_use i, small e ∙ ap (λ c. cond c (Some (assigned i)) (cond (p i) (Some (private_use i)) None)) f ∙ ap (λ c. cond c (Some (private_use i)) None) g)
      go (inl e) (inr f) (inr g) = inr (unregistered_private, inr (e, f, g, refl))
  named_case (text b) = inl (named b, refl)
  named_case (bytes b) = inr (unexpected, refl)
  named_case (array ts) = inr (unexpected, refl)
  named_case (map_tree ps) = inr (unexpected, refl)
  named_case (tag n t) = inr (unexpected, refl)
  named_case (simple n) = inr (unexpected, refl)
  named_case (float f) = inr (unexpected, refl)

registered_case : (r : ℤ → Bool) (t : Tree) → ((m : Named) × (registered_of r t ≡ Some m)) ⊎ ((e : CoseFault) × WrongRegistered r t e)
registered_case r (integer i) = go (bool_cases (is_i64 i)) (bool_cases (r i))
  where
    go : (is_i64 i ≡ true) ⊎ (is_i64 i ≡ false) → (r i ≡ true) ⊎ (r i ≡ false) → ((m : Named) × (registered_of r (integer i) ≡ Some m)) ⊎ ((e : CoseFault) × WrongRegistered r (integer i) e)
    go (inr e) f = inr (out_of_range, inl (e, refl))
    go (inl e) (inl f) = inl (assigned i, ap (λ c. cond c (registered_number r i) None) e ∙ ap (λ c. cond c (Some (assigned i)) None) f)
    go (inl e) (inr f) = inr (unregistered, inr (e, f, refl))
registered_case r (text b) = inl (named b, refl)
registered_case r (bytes b) = inr (unexpected, refl)
registered_case r (array ts) = inr (unexpected, refl)
registered_case r (map_tree ps) = inr (unexpected, refl)
registered_case r (tag n t) = inr (unexpected, refl)
registered_case r (simple n) = inr (unexpected, refl)
registered_case r (float f) = inr (unexpected, refl)

-- ---- the values of the labels 1 to 6
alg_case : (v : Tree) → ((a : Named) × (alg_of v ≡ Some (Some a))) ⊎ ((e : CoseFault) × WrongNamed is_algorithm is_private_use v e)
alg_case v = go (named_case is_algorithm is_private_use v)
  where
    go : ((m : Named) × (named_of is_algorithm is_private_use v ≡ Some m)) ⊎ ((e : CoseFault) × WrongNamed is_algorithm is_private_use v e)
        → ((a : Named) × (alg_of v ≡ Some (Some a))) ⊎ ((e : CoseFault) × WrongNamed is_algorithm is_private_use v e)
    go (inl (m, e)) = inl (m, ap (option_map Some) e)
    go (inr w) = inr w

-- an item that is no name
record NoName (ts : Trees) : Type 0 where
  front : List Tree
  after : List Tree
  item : Tree
  fault : CoseFault
  are : ts ≡ trees (front ++ item ∷ after)
  wrong : WrongNamed header_parameters.is_registered is_private_use item fault

names_case : (ts : Trees) → ((ns : List Named) × (parameters_of ts ≡ Some ns)) ⊎ NoName ts
names_case no_trees = inl ([], refl)
names_case (one_more t ts) = go (named_case header_parameters.is_registered is_private_use t) (names_case ts)
  where
    go : ((m : Named) × (parameter_of t ≡ Some m)) ⊎ ((e : CoseFault) × WrongNamed header_parameters.is_registered is_private_use t e) → ((ns : List Named) × (parameters_of ts ≡ Some ns)) ⊎ NoName ts
        → ((ns : List Named) × (parameters_of (one_more t ts) ≡ Some ns)) ⊎ NoName (one_more t ts)
    go (inr (e, w)) more = inr (record { front = []; after = list_of ts; item = t; fault = e; are = ap (one_more t) (list_trees ts); wrong = w })
    go (inl m) (inr w) = inr (record { front = t ∷ w.front; after = w.after; item = w.item; fault = w.fault; are = ap (one_more t) w.are; wrong = w.wrong })
    go (inl (m, e)) (inl (ns, f)) =
        inl (m ∷ ns, ap (λ o. option_and_then (λ n. option_map (λ ns. n ∷ ns) (parameters_of ts)) o) e ∙ ap (option_map (λ ns. m ∷ ns)) f)

crit_case : (v : Tree) → ((ns : List Named) × (crit_of v ≡ Some ns)) ⊎ ((e : CoseFault) × WrongCrit v e)
crit_case (array no_trees) = inr (unexpected, empty_crit)
crit_case (array (one_more t ts)) = go (names_case (one_more t ts))
  where
    go : ((ns : List Named) × (parameters_of (one_more t ts) ≡ Some ns)) ⊎ NoName (one_more t ts)
        → ((ns : List Named) × (crit_of (array (one_more t ts)) ≡ Some ns)) ⊎ ((e : CoseFault) × WrongCrit (array (one_more t ts)) e)
    go (inl ns) = inl ns
    go (inr w) = inr (w.fault, subst (λ z. WrongCrit (array z) w.fault) (sym w.are) (bad_crit w.front w.after w.item w.fault w.wrong))
crit_case (integer i) = inr (unexpected, no_crit_list (integer i) refl)
crit_case (text b) = inr (unexpected, no_crit_list (text b) refl)
crit_case (bytes b) = inr (unexpected, no_crit_list (bytes b) refl)
crit_case (map_tree ps) = inr (unexpected, no_crit_list (map_tree ps) refl)
crit_case (tag n t) = inr (unexpected, no_crit_list (tag n t) refl)
crit_case (simple n) = inr (unexpected, no_crit_list (simple n) refl)
crit_case (float f) = inr (unexpected, no_crit_list (float f) refl)

abbrev TypeCase : Tree → Type 0
TypeCase v = ((f : Named) × HasContentType (Some v) (Some f)) ⊎ ((e : CoseFault) × WrongContentType v e)

words_case : (b : List ℕ) → TypeCase (text b)
words_case b = go (nil_cases b) (same_lists (trim b) b) (cases_eq (count_by is_slash b) 1)
  where
    go : (b ≡ []) ⊎ (b ≢ []) → (trim b ≡ b) ⊎ (trim b ≢ b) → (count_by is_slash b ≡ 1) ⊎ (count_by is_slash b ≡ 1 → ⊥) → TypeCase (text b)
    go (inl e) f g = inr (unexpected, subst (λ z. WrongContentType (text z) unexpected) (sym e) empty_text)
    go (inr e) (inr f) g = inr (unexpected, white_space b f)
    go (inr e) (inl f) (inr g) = inr (unexpected, no_one_slash b g)
    go (inr e) (inl f) (inl g) = inl (named b, (named b, refl, (e, f, g), refl))

type_named : (v : Tree) (f : Named) → format_of v ≡ Some f → TypeCase v
type_named v (private_use i) e = inl (private_use i, (private_use i, e, tt, refl))
type_named v (assigned i) e = inl (assigned i, (assigned i, e, tt, refl))
type_named v (named b) e = subst TypeCase (sym (text_is coap_content_formats.is_registered v b e)) (words_case b)

type_case : (v : Tree) → TypeCase v
type_case v = go (registered_case coap_content_formats.is_registered v)
  where
    go : ((m : Named) × (format_of v ≡ Some m)) ⊎ ((e : CoseFault) × WrongRegistered coap_content_formats.is_registered v e) → TypeCase v
    go (inl (m, e)) = type_named v m e
    go (inr (e, w)) = inr (e, no_content_type v e w)

string_case : (v : Tree) → ((b : List ℕ) × (some_bytes v ≡ Some b)) ⊎ ((e : CoseFault) × WrongBytes v e)
string_case (bytes []) = inr (unexpected, (refl, refl))
string_case (bytes (x ∷ xs)) = inl (x ∷ xs, refl)
string_case (array ts) = inr (unexpected, refl)
string_case (integer i) = inr (unexpected, refl)
string_case (text b) = inr (unexpected, refl)
string_case (map_tree ps) = inr (unexpected, refl)
string_case (tag n t) = inr (unexpected, refl)
string_case (simple n) = inr (unexpected, refl)
string_case (float f) = inr (unexpected, refl)

-- ---- the field of a label but 7
abbrev pub FillCase : LabelFields → Tree → Plain → Type 0
FillCase m v p = ((q : Plain) × Fills m v p q) ⊎ ((e : CoseFault) × WrongFill m v p e)

module _ (m : LabelFields) (v : Tree) (p : Plain) where
  -- a fault of the value
  fault_at : (l : LabelFields) (e : CoseFault) → m ≡ l → WrongField v l e → FillCase m v p
  fault_at l e q w = inr (e, field_wrong (subst (λ z. WrongField v z e) (sym q) w))

  fill_1 : m ≡ number (pos 1) → ((a : Named) × (alg_of v ≡ Some (Some a))) ⊎ ((e : CoseFault) × WrongNamed is_algorithm is_private_use v e) → FillCase m v p
  fill_1 q (inl (a, e)) = inl (record p { alg = Some a }, fills_alg a q e refl)
  fill_1 q (inr (e, w)) = fault_at (number (pos 1)) e q (wrong_alg e w)

  fill_2 : m ≡ number (pos 2) → ((ns : List Named) × (crit_of v ≡ Some ns)) ⊎ ((e : CoseFault) × WrongCrit v e) → FillCase m v p
  fill_2 q (inl (ns, e)) = inl (record p { crit = ns }, fills_crit ns q e refl)
  fill_2 q (inr (e, w)) = fault_at (number (pos 2)) e q (wrong_crit e w)

  fill_3 : m ≡ number (pos 3) → TypeCase v → FillCase m v p
  fill_3 q (inl (f, h)) = inl (record p { content_type = Some f }, fills_content_type f q h refl)
  fill_3 q (inr (e, w)) = fault_at (number (pos 3)) e q (wrong_content_type e w)

  fill_4 : m ≡ number (pos 4) → ((b : List ℕ) × (some_bytes v ≡ Some b)) ⊎ ((e : CoseFault) × WrongBytes v e) → FillCase m v p
  fill_4 q (inl (b, e)) = inl (record p { key_id = b }, fills_key_id b q e refl)
  fill_4 q (inr (e, w)) = fault_at (number (pos 4)) e q (wrong_key_id e w)

  fill_5 : m ≡ number (pos 5) → ((b : List ℕ) × (some_bytes v ≡ Some b)) ⊎ ((e : CoseFault) × WrongBytes v e) → (p.partial_iv ≡ []) ⊎ (p.partial_iv ≢ []) → FillCase m v p
  fill_5 q (inl (b, e)) (inl n) = inl (record p { iv = b }, fills_iv b q e n refl)
  fill_5 q (inl (b, e)) (inr n) = inr (unexpected, iv_second b q e n refl)
  fill_5 q (inr (e, w)) n = fault_at (number (pos 5)) e q (wrong_iv e w)

  fill_6 : m ≡ number (pos 6) → ((b : List ℕ) × (some_bytes v ≡ Some b)) ⊎ ((e : CoseFault) × WrongBytes v e) → (p.iv ≡ []) ⊎ (p.iv ≢ []) → FillCase m v p
  fill_6 q (inl (b, e)) (inl n) = inl (record p { partial_iv = b }, fills_partial_iv b q e n refl)
  fill_6 q (inl (b, e)) (inr n) = inr (unexpected, partial_iv_second b q e n refl)
  fill_6 q (inr (e, w)) n = fault_at (number (pos 6)) e q (wrong_partial_iv e w)

  no_place : is_at 1 m ≡ false → is_at 2 m ≡ false → is_at 3 m ≡ false → is_at 4 m ≡ false → is_at 5 m ≡ false → is_at 6 m ≡ false → is_at 7 m ≡ false → is_core m ≡ false
  no_place a b c d e f g = λ i. a i || (b i || (c i || (d i || (e i || (f i || g i)))))

  pub fill_case : is_at 7 m ≡ false → FillCase m v p
  fill_case seven = go (bool_cases (is_at 1 m)) (bool_cases (is_at 2 m)) (bool_cases (is_at 3 m)) (bool_cases (is_at 4 m)) (bool_cases (is_at 5 m)) (bool_cases (is_at 6 m))
    where
      go : (is_at 1 m ≡ true) ⊎ (is_at 1 m ≡ false) → (is_at 2 m ≡ true) ⊎ (is_at 2 m ≡ false) → (is_at 3 m ≡ true) ⊎ (is_at 3 m ≡ false) → (is_at 4 m ≡ true) ⊎ (is_at 4 m ≡ false)
          → (is_at 5 m ≡ true) ⊎ (is_at 5 m ≡ false) → (is_at 6 m ≡ true) ⊎ (is_at 6 m ≡ false) → FillCase m v p
      go (inl x) b c d e f = fill_1 (is_at_is 1 m x) (alg_case v)
      go (inr a) (inl x) c d e f = fill_2 (is_at_is 2 m x) (crit_case v)
      go (inr a) (inr b) (inl x) d e f = fill_3 (is_at_is 3 m x) (type_case v)
      go (inr a) (inr b) (inr c) (inl x) e f = fill_4 (is_at_is 4 m x) (string_case v)
      go (inr a) (inr b) (inr c) (inr d) (inl x) f = fill_5 (is_at_is 5 m x) (string_case v) (nil_cases p.partial_iv)
      go (inr a) (inr b) (inr c) (inr d) (inr e) (inl x) = fill_6 (is_at_is 6 m x) (string_case v) (nil_cases p.iv)
      go (inr a) (inr b) (inr c) (inr d) (inr e) (inr f) = inl (record p { rest = p.rest ++ (m, v) ∷ [] }, fills_rest (no_place a b c d e f seven) refl)
