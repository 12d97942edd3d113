-- A value with a fault is no label, no name and no field, also in an entry that is after others.
use Rattle.std.proofs.Common.{◌≡◌, ℤ, inl, inr, List, [], ◌∷◌, ◌++◌, Bool, true, false, cond, Option, Some, None, option_map, option_and_then, refl, sym, ap, subst, ◌∙◌}
use Rattle.ciborium_value.specs.Tree.{Tree, integer, bytes, text, array, map as map_tree, tag, simple, float}
use Rattle.ciborium_value.specs.View.{pairs}
use Rattle.coset_labels.specs.Entries.{entries, at, IsIn, Distinct, IsField}
use Rattle.coset_labels.specs.Facts.Entries.{cond_none, at_none}
use Rattle.coset_labels.specs.Faults.{CoseFault}
use Rattle.coset_labels.specs.Fields.{LabelFields, number, Named, private_use, assigned}
use Rattle.coset_labels.specs.Kinds.{some_bytes, WrongBytes}
use Rattle.coset_labels.specs.Labels.{label_of, named_of, registered_of, WrongLabel, WrongNamed, WrongRegistered}

-- ---- the entry after others in a map whose keys can be read
pub record Splits {K : Type 0} (read : Tree → Option K) (l v : Tree) (es all : List (K × Tree)) : Type 0 where
  pub key : K
  pub behind : List (K × Tree)
  pub is : read l ≡ Some key
  pub whole : all ≡ es ++ (key, v) ∷ behind

record First {K : Type 0} (o : Option K) (w : Option (List (K × Tree))) (v : Tree) (all : List (K × Tree)) : Type 0 where
  key : K
  rest : List (K × Tree)
  is : o ≡ Some key
  others : w ≡ Some rest
  whole : all ≡ (key, v) ∷ rest

first : {K : Type 0} (o : Option K) (w : Option (List (K × Tree))) (v : Tree) (all : List (K × Tree)) → option_and_then (λ m. option_map (λ es. (m, v) ∷ es) w) o ≡ Some all → First o w v all
first (Some m) (Some es) v all e = let h : Some ((m, v) ∷ es) ≡ Some all = e in record { key = m; rest = es; is = refl; others = refl; whole = cc }
first o w v all e = let h : None ≡ Some all = e in cc

pub splits : {K : Type 0} (read : Tree → Option K) (before after : List (Tree × Tree)) (l v : Tree) (es all : List (K × Tree)) → entries read (pairs before) ≡ Some es → entries read (pairs (before ++ (l, v) ∷ after)) ≡ Some all → Splits read l v es all
splits read [] after l v es all e f =
    let n : Some [] ≡ Some es = e in
    let none : [] ≡ es = cc in
    let w = first (read l) (entries read (pairs after)) v all f in
    record { key = w.key; behind = w.rest; is = w.is; whole = w.whole ∙ ap (λ z. z ++ (w.key, v) ∷ w.rest) none }
splits read (b ∷ before) after l v es all e f =
    let x = first (read b.0) (entries read (pairs before)) b.1 es e in
    let y = first (read b.0) (entries read (pairs (before ++ (l, v) ∷ after))) b.1 all f in
    let w = splits read before after l v x.rest y.rest x.others y.others in
    let both : Some x.key ≡ Some y.key = sym x.is ∙ y.is in
    let same : y.key ≡ x.key = cc in
    record {
      key = w.key;
      behind = w.behind;
      is = w.is;
      whole = y.whole ∙ ap (λ z. (y.key, b.1) ∷ z) w.whole ∙ ap (λ z. (z, b.1) ∷ (x.rest ++ (w.key, v) ∷ w.behind)) same ∙ ap (λ z. z ++ (w.key, v) ∷ w.behind) (sym x.whole);
    }

in_middle : {K : Type 0} (es : List (K × Tree)) (m : K) (v : Tree) (fs : List (K × Tree)) → IsIn m (es ++ (m, v) ∷ fs)
in_middle [] m v fs = inl refl
in_middle (e ∷ es) m v fs = inr (in_middle es m v fs)

pub not_before : {K : Type 0} (es : List (K × Tree)) (m : K) (v : Tree) (fs : List (K × Tree)) → Distinct (es ++ (m, v) ∷ fs) → IsIn m es → ⊥
not_before [] m v fs d i = i
not_before (e ∷ es) m v fs d (inl q) = d.0 (subst (λ z. IsIn z (es ++ (m, v) ∷ fs)) q (in_middle es m v fs))
not_before (e ∷ es) m v fs d (inr i) = not_before es m v fs d.1 i

at_middle : {K : Type 0} (is : K → Bool) (es : List (K × Tree)) (m : K) (v : Tree) (fs : List (K × Tree)) → is m ≡ true → at is es ≡ None → at is (es ++ (m, v) ∷ fs) ≡ Some v
at_middle is [] m v fs e h = ap (λ b. cond b (Some v) (at is fs)) e
at_middle is (x ∷ es) m v fs e h = let c = cond_none (is x.0) x.1 (at is es) (at is (es ++ (m, v) ∷ fs)) h in c.1 ∙ at_middle is es m v fs e c.0

-- what is at a key in front is also at it in the whole
front_step : (b : Bool) (x : Tree) (y z : Option Tree) (t : Tree) → (y ≡ Some t → z ≡ Some t) → cond b (Some x) y ≡ Some t → cond b (Some x) z ≡ Some t
front_step true x y z t f e = e
front_step false x y z t f e = f e

pub at_front : {K : Type 0} (is : K → Bool) (es fs : List (K × Tree)) (t : Tree) → at is es ≡ Some t → at is (es ++ fs) ≡ Some t
at_front is [] fs t e = let h : None ≡ Some t = e in cc
at_front is (x ∷ es) fs t e = front_step (is x.0) x.1 (at is es) (at is (es ++ fs)) t (at_front is es fs t) e

pub snoc_front : {K : Type 0} (es fs : List (K × Tree)) (x : K × Tree) → es ++ x ∷ fs ≡ (es ++ x ∷ []) ++ fs
snoc_front [] fs x = refl
snoc_front (e ∷ es) fs x = ap (λ z. e ∷ z) (snoc_front es fs x)

module _ {K : Type 0} (read : Tree → Option K) (es all : List (K × Tree)) (l v : Tree) (s : Splits read l v es all) (d : Distinct all) where
  -- the value at the only such key is the entry's
  pub there_at : (is : K → Bool) (m : K) → read l ≡ Some m → is m ≡ true → ((k : K) → is k ≡ true → m ≡ k) → at is all ≡ Some v
  there_at is m q t only =
      let both : Some s.key ≡ Some m = sym s.is ∙ q in
      let same : s.key ≡ m = cc in
      let parts : all ≡ es ++ (m, v) ∷ s.behind = s.whole ∙ ap (λ z. es ++ (z, v) ∷ s.behind) same in
      let fresh : IsIn m es → ⊥ = not_before es m v s.behind (subst (λ z. Distinct z) parts d) in
      ap (at is) parts ∙ at_middle is es m v s.behind t (at_none is es m only fresh)

  pub field_not : {A : Type 0} (f : Tree → Option A) (absent : A) (is : K → Bool) (m : K) (x : A) → read l ≡ Some m → is m ≡ true → ((k : K) → is k ≡ true → m ≡ k)
      → IsField f absent (at is all) x → f v ≡ None → ⊥
  field_not f absent is m x q t only w z =
      let has : f v ≡ Some x = subst (λ o. IsField f absent o x) (there_at is m q t only) w in
      let h : None ≡ Some x = sym z ∙ has in
      cc

  pub again_not : (m : K) → read l ≡ Some m → IsIn m es → ⊥
  again_not m q i =
      let both : Some m ≡ Some s.key = sym q ∙ s.is in
      let same : m ≡ s.key = cc in
      not_before es s.key v s.behind (subst (λ z. Distinct z) s.whole d) (subst (λ z. IsIn z es) same i)

-- ---- values that have a fault
pub no_label : (l : Tree) (e : CoseFault) → WrongLabel l e → label_of l ≡ None
no_label (integer i) e w = ap (λ b. cond {A = Option LabelFields} b (Some (number i)) None) w.0
no_label (text b) e w = absurd w
no_label (bytes b) e w = refl
no_label (array ts) e w = refl
no_label (map_tree ps) e w = refl
no_label (tag n t) e w = refl
no_label (simple n) e w = refl
no_label (float f) e w = refl

abbrev number_if : Bool → Bool → Bool → ℤ → Option Named
number_if small registered private i = cond small (cond registered (Some (assigned i)) (cond private (Some (private_use i)) None)) None

pub no_named : (r p : ℤ → Bool) (v : Tree) (e : CoseFault) → WrongNamed r p v e → named_of r p v ≡ None
no_named r p (integer i) e (inl w) = ap (λ b. number_if b (r i) (p i) i) w.0
no_named r p (integer i) e (inr w) = ap (λ b. number_if b (r i) (p i) i) w.0 ∙ ap (λ b. number_if true b (p i) i) w.1 ∙ ap (λ b. number_if true false b i) w.2
no_named r p (text b) e w = absurd w
no_named r p (bytes b) e w = refl
no_named r p (array ts) e w = refl
no_named r p (map_tree ps) e w = refl
no_named r p (tag n t) e w = refl
no_named r p (simple n) e w = refl
no_named r p (float f) e w = refl

abbrev registered_if : Bool → Bool → ℤ → Option Named
registered_if small registered i = cond small (cond registered (Some (assigned i)) None) None

pub no_registered : (r : ℤ → Bool) (v : Tree) (e : CoseFault) → WrongRegistered r v e → registered_of r v ≡ None
no_registered r (integer i) e (inl w) = ap (λ b. registered_if b (r i) i) w.0
no_registered r (integer i) e (inr w) = ap (λ b. registered_if b (r i) i) w.0 ∙ ap (λ b. registered_if true b i) w.1
no_registered r (text b) e w = absurd w
no_registered r (bytes b) e w = refl
no_registered r (array ts) e w = refl
no_registered r (map_tree ps) e w = refl
no_registered r (tag n t) e w = refl
no_registered r (simple n) e w = refl
no_registered r (float f) e w = refl

pub no_string_there : (v : Tree) (e : CoseFault) → WrongBytes v e → some_bytes v ≡ None
no_string_there (bytes []) e w = refl
no_string_there (bytes (x ∷ xs)) e w = let h : x ∷ xs ≡ [] = w.0 in cc
no_string_there (integer i) e w = refl
no_string_there (text b) e w = refl
no_string_there (array ts) e w = refl
no_string_there (map_tree ps) e w = refl
no_string_there (tag n t) e w = refl
no_string_there (simple n) e w = refl
no_string_there (float f) e w = refl
