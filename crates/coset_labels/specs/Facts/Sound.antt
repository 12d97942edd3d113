-- Trees that are written as they would be read: they nest no deeper than d, their bignums are
-- folded, and their simple values are those that a value can have.
use Rattle.std.proofs.Common.{◌≡◌, ℕ, ℤ, ◌≤◌, ◌-◌, suc, List, [], ◌∷◌, ◌++◌, map, Bool, true, false, cond, Option, Some, None, option_map, option_and_then, ap, subst, ◌∙◌, refl, arith}
use Rattle.std.specs.Prelude.{max}
use Rattle.ciborium_value.specs.Tree.{Tree, integer, bytes, text, array, map as map_tree, simple, float, Trees, no_trees, one_more, Pairs, no_pairs, pair_more, depth, depth_all, depth_pairs}
use Rattle.ciborium_value.specs.View.{trees, pairs}
use Rattle.ciborium_value.specs.Encoding.{enc, Fits}
use Rattle.ciborium_value.specs.Folding.{fold, fold_all_by, fold_pairs_by}
use Rattle.ciborium_ll.specs.declared.hdr.Float.{Float as FloatBits}
use Rattle.ciborium.specs.Front.{Reads}
use Rattle.ciborium.specs.Meaning.{Assigned, AllAssigned, PairsAssigned}
use Rattle.ciborium.proofs.Agreeing.{encoding_means}
use Rattle.ciborium.proofs.Folded.{folded_again, is_assigned}
use Rattle.coset_labels.specs.Entries.{entries, at, others}
use Rattle.coset_labels.specs.Fields.{LabelFields, number, words, Named, private_use, assigned, named}
use Rattle.coset_labels.specs.Labels.{label_tree, named_tree}
use Rattle.coset_labels.specs.Facts.Meant.{meant, array_split, map_split}

-- ---- trees that are written as they would be read, at most d levels deep
abbrev pub folds_all : Trees → Option Trees
folds_all = fold_all_by (λ n. Some (simple n))

abbrev pub folds_pairs : Pairs → Option Pairs
folds_pairs = fold_pairs_by (λ n. Some (simple n))

pub record Sound (d : ℕ) (t : Tree) : Type 0 where
  pub shallow : depth t ≤ d
  pub folded : fold t ≡ Some t
  pub assigned : Assigned t

pub record SoundAll (d : ℕ) (ts : Trees) : Type 0 where
  pub shallow : depth_all ts ≤ d
  pub folded : folds_all ts ≡ Some ts
  pub assigned : AllAssigned ts

pub record SoundPairs (d : ℕ) (ps : Pairs) : Type 0 where
  pub shallow : depth_pairs ps ≤ d
  pub folded : folds_pairs ps ≡ Some ps
  pub assigned : PairsAssigned ps

pub deeper : (d e : ℕ) (t : Tree) → d ≤ e → Sound d t → Sound e t
deeper d e t l s = let h = s.shallow in record { shallow = omega (arith, h, l); folded = s.folded; assigned = s.assigned }

pub array_inside : (d : ℕ) (ts : Trees) → Sound d (array ts) → (1 ≤ d) × SoundAll (d - 1) ts
array_inside d ts s =
    let h : suc (depth_all ts) ≤ d = s.shallow in
    let w = array_split (folds_all ts) (array ts) s.folded in
    let same : w.0 ≡ ts = (let f : array ts ≡ array w.0 = w.2 in cc) in
    (omega (arith, h), record { shallow = omega (arith, h); folded = w.1 ∙ ap Some same; assigned = s.assigned })

pub map_inside : (d : ℕ) (ps : Pairs) → Sound d (map_tree ps) → (1 ≤ d) × SoundPairs (d - 1) ps
map_inside d ps s =
    let h : suc (depth_pairs ps) ≤ d = s.shallow in
    let w = map_split (folds_pairs ps) (map_tree ps) s.folded in
    let same : w.0 ≡ ps = (let f : map_tree ps ≡ map_tree w.0 = w.2 in cc) in
    (omega (arith, h), record { shallow = omega (arith, h); folded = w.1 ∙ ap Some same; assigned = s.assigned })

pub array_sound : (d : ℕ) (ts : Trees) → 1 ≤ d → SoundAll (d - 1) ts → Sound d (array ts)
array_sound d ts l s = let h : depth_all ts ≤ d - 1 = s.shallow in record { shallow = omega (arith, h, l); folded = ap (option_map array) s.folded; assigned = s.assigned }

pub map_sound : (d : ℕ) (ps : Pairs) → 1 ≤ d → SoundPairs (d - 1) ps → Sound d (map_tree ps)
map_sound d ps l s = let h : depth_pairs ps ≤ d - 1 = s.shallow in record { shallow = omega (arith, h, l); folded = ap (option_map map_tree) s.folded; assigned = s.assigned }

pub all_none : (d : ℕ) → SoundAll d no_trees
all_none d = record { shallow = omega arith; folded = refl; assigned = tt }

pub all_more : (d : ℕ) (t : Tree) (ts : Trees) → Sound d t → SoundAll d ts → SoundAll d (one_more t ts)
all_more d t ts a b =
    let h = a.shallow in let k : depth_all ts ≤ d = b.shallow in
    record { shallow = omega (arith, h, k); folded = ap (option_and_then (λ u. option_map (one_more u) (folds_all ts))) a.folded ∙ ap (option_map (one_more t)) b.folded; assigned = (a.assigned, b.assigned) }

pub all_split : (m : Option Tree) (ms : Option Trees) (t : Tree) (ts : Trees) → option_and_then (λ u. option_map (one_more u) ms) m ≡ Some (one_more t ts) → (m ≡ Some t) × (ms ≡ Some ts)
all_split (Some v) (Some vs) t ts e =
    let f : one_more v vs ≡ one_more t ts = (let g : Some (one_more v vs) ≡ Some (one_more t ts) = e in cc) in
    let a : v ≡ t = cc in let b : vs ≡ ts = cc in (ap Some a, ap Some b)
all_split m ms t ts e = let f : None ≡ Some (one_more t ts) = e in absurd (let g : ⊥ = cc in g)

pub all_parts : (d : ℕ) (t : Tree) (ts : Trees) → SoundAll d (one_more t ts) → Sound d t × SoundAll d ts
all_parts d t ts s =
    let h : max (depth t) (depth_all ts) ≤ d = s.shallow in
    let w = all_split (fold t) (folds_all ts) t ts s.folded in
    (record { shallow = omega (arith, h); folded = w.0; assigned = s.assigned.0 }, record { shallow = omega (arith, h); folded = w.1; assigned = s.assigned.1 })

pub pairs_split : (m n : Option Tree) (ms : Option Pairs) (k v : Tree) (ps : Pairs) → option_and_then (λ a. option_and_then (λ b. option_map (pair_more a b) ms) n) m ≡ Some (pair_more k v ps)
    → (m ≡ Some k) × (n ≡ Some v) × (ms ≡ Some ps)
pairs_split (Some a) (Some b) (Some qs) k v ps e =
    let f : pair_more a b qs ≡ pair_more k v ps = (let g : Some (pair_more a b qs) ≡ Some (pair_more k v ps) = e in cc) in
    let x : a ≡ k = cc in let y : b ≡ v = cc in let z : qs ≡ ps = cc in (ap Some x, ap Some y, ap Some z)
pairs_split m n ms k v ps e = let f : None ≡ Some (pair_more k v ps) = e in absurd (let g : ⊥ = cc in g)

pub pairs_parts_sound : (d : ℕ) (k v : Tree) (ps : Pairs) → SoundPairs d (pair_more k v ps) → Sound d v × SoundPairs d ps
pairs_parts_sound d k v ps s =
    let h : max (depth k) (max (depth v) (depth_pairs ps)) ≤ d = s.shallow in
    let w = pairs_split (fold k) (fold v) (folds_pairs ps) k v ps s.folded in
    (record { shallow = omega (arith, h); folded = w.1; assigned = s.assigned.1 }, record { shallow = omega (arith, h); folded = w.2; assigned = s.assigned.2 })

pub pairs_more : (d : ℕ) (k v : Tree) (ps : Pairs) → Sound d k → Sound d v → SoundPairs d ps → SoundPairs d (pair_more k v ps)
pairs_more d k v ps a b c =
    let h = a.shallow in let i = b.shallow in let j : depth_pairs ps ≤ d = c.shallow in
    record {
      shallow = omega (arith, h, i, j);
      folded = ap (option_and_then (λ x. option_and_then (λ y. option_map (pair_more x y) (folds_pairs ps)) (fold v))) a.folded ∙ ap (option_and_then (λ y. option_map (pair_more k y) (folds_pairs ps))) b.folded ∙ ap (option_map (pair_more k v)) c.folded;
      assigned = (a.assigned, b.assigned, c.assigned);
    }

-- ---- leaves
pub integer_sound : (d : ℕ) (i : ℤ) → Sound d (integer i)
integer_sound d i = record { shallow = omega arith; folded = refl; assigned = tt }

pub text_sound : (d : ℕ) (b : List ℕ) → Sound d (text b)
text_sound d b = record { shallow = omega arith; folded = refl; assigned = tt }

pub bytes_sound : (d : ℕ) (b : List ℕ) → Sound d (bytes b)
bytes_sound d b = record { shallow = omega arith; folded = refl; assigned = tt }

pub float_sound : (d : ℕ) (f : FloatBits) → Sound d (float f)
float_sound d f = record { shallow = omega arith; folded = refl; assigned = tt }

pub label_sound : (d : ℕ) (l : LabelFields) → Sound d (label_tree l)
label_sound d (number i) = integer_sound d i
label_sound d (words b) = text_sound d b

pub named_sound : (d : ℕ) (m : Named) → Sound d (named_tree m)
named_sound d (private_use i) = integer_sound d i
named_sound d (assigned i) = integer_sound d i
named_sound d (named b) = text_sound d b

pub names_sound : (d : ℕ) (ms : List Named) → SoundAll d (trees (map named_tree ms))
names_sound d [] = all_none d
names_sound d (m ∷ ms) = all_more d (named_tree m) (trees (map named_tree ms)) (named_sound d m) (names_sound d ms)

-- ---- entries
abbrev pub AllSound : {K : Type 0} → ℕ → List (K × Tree) → Type 0
AllSound d [] = Unit {0}
AllSound d (e ∷ es) = Sound d e.1 × AllSound d es

module _ {K : Type 0} (read : Tree → Option K) where
  one_sound : (d : ℕ) (v : Tree) (m : Option K) (o : Option (List (K × Tree))) (es : List (K × Tree)) → Sound d v → ((fs : List (K × Tree)) → o ≡ Some fs → AllSound d fs)
      → option_and_then (λ m. option_map (λ es. (m, v) ∷ es) o) m ≡ Some es → AllSound d es
  one_sound d v (Some m) (Some fs) es s k e =
      let h : (m, v) ∷ fs ≡ es = (let g : Some ((m, v) ∷ fs) ≡ Some es = e in cc) in
      subst (λ z. AllSound d z) h (s, k fs refl)
  one_sound d v m o es s k e = let h : None ≡ Some es = e in absurd (let f : ⊥ = cc in f)

  pub entries_sound : (d : ℕ) (ps : Pairs) (es : List (K × Tree)) → entries read ps ≡ Some es → SoundPairs d ps → AllSound d es
  entries_sound d no_pairs es e s = let h : [] ≡ es = (let k : Some [] ≡ Some es = e in cc) in subst (λ z. AllSound d z) h tt
  entries_sound d (pair_more l v ps) es e s =
      let w = pairs_parts_sound d l v ps s in
      one_sound d v (read l) (entries read ps) es w.0 (λ fs h. entries_sound d ps fs h w.1) e

module _ {K : Type 0} where
  pub kept_sound : (d : ℕ) (b : Bool) (e : K × Tree) (zs : List (K × Tree)) → Sound d e.1 → AllSound d zs → AllSound d (cond b zs (e ∷ zs))
  kept_sound d true e zs h s = s
  kept_sound d false e zs h s = (h, s)

  pub sound_append : (d : ℕ) (xs ys : List (K × Tree)) → AllSound d xs → AllSound d ys → AllSound d (xs ++ ys)
  sound_append d [] ys a b = b
  sound_append d (x ∷ xs) ys a b = (a.0, sound_append d xs ys a.1 b)

  pub others_sound : (is_own : K → Bool) (d : ℕ) (es : List (K × Tree)) → AllSound d es → AllSound d (others is_own es)
  others_sound is_own d [] s = tt
  others_sound is_own d (e ∷ es) s = kept_sound d (is_own e.0) e (others is_own es) s.0 (others_sound is_own d es s.1)

first_sound : (d : ℕ) (b : Bool) (x t : Tree) (o : Option Tree) → Sound d x → (o ≡ Some t → Sound d t) → cond b (Some x) o ≡ Some t → Sound d t
first_sound d true x t o s k e = let h : x ≡ t = (let g : Some x ≡ Some t = e in cc) in subst (Sound d) h s
first_sound d false x t o s k e = k e

pub at_sound : {K : Type 0} (is : K → Bool) (d : ℕ) (es : List (K × Tree)) (t : Tree) → AllSound d es → at is es ≡ Some t → Sound d t
at_sound is d [] t s e = let h : None ≡ Some t = e in absurd (let f : ⊥ = cc in f)
at_sound is d (x ∷ es) t s e = first_sound d (is x.0) x.1 t (at is es) s.0 (λ h. at_sound is d es t s.1 h) e

-- the map that stands for entries
pub sound_pairs : {K : Type 0} (tree : K → Tree) (d : ℕ) → ((k : K) → Sound d (tree k)) → (es : List (K × Tree)) → AllSound d es → SoundPairs d (pairs (map (λ e. (tree e.0, e.1)) es))
sound_pairs tree d f [] s = record { shallow = omega arith; folded = refl; assigned = tt }
sound_pairs tree d f (e ∷ es) s = pairs_more d (tree e.0) e.1 (pairs (map (λ e. (tree e.0, e.1)) es)) (f e.0) s.0 (sound_pairs tree d f es s.1)

-- ---- bytes
pub reads_sound : (b : List ℕ) (d : ℕ) (t : Tree) → Reads b d t → Sound d t
reads_sound b d t r =
    let h = meant r.tree t r.means in let l = r.shallow in
    record { shallow = omega (arith, h, l); folded = folded_again r.tree t r.means; assigned = is_assigned r.tree t r.means }

pub sound_reads : (d : ℕ) (u : Tree) → Fits u → Sound d u → Reads (enc u) d u
sound_reads d u f s = let w = encoding_means u u f s.assigned s.folded in record { tree = u; spells = w.0; shallow = s.shallow; means = w.1 }
