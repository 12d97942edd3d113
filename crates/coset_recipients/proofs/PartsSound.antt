-- What is written of parts that were read nests no deeper than they did, and is read again, after a
-- tag too.
use Rattle.std.proofs.Common.{◌≡◌, ℕ, ◌≤◌, ◌<◌, ◌-◌, ◌^◌, suc, List, [], ◌∷◌, ◌++◌, false, cond, Option, Some, None, option_and_then, refl, sym, ap, subst, ◌∙◌, arith}
use Rattle.std.specs.Prelude.{◌||◌, ◌&&◌, nat_eq}
use Rattle.ciborium_value.specs.Tree.{Tree, integer, bytes, text, array, map as map_tree, tag, simple, float, Trees, no_trees, one_more, depth, is_bytes}
use Rattle.ciborium_value.specs.View.{trees}
use Rattle.ciborium_value.specs.Encoding.{enc, Fits}
use Rattle.ciborium_value.specs.Folding.{fold, fold_bytes, tagged}
use Rattle.coset_labels.specs.Limits.{nesting}
use Rattle.coset_labels.specs.Reading.{HasItem, Tagged}
use Rattle.coset_headers.specs.Fields.{HeaderFields, ProtectedFields}
use Rattle.coset_headers.proofs.Sound.{Sound, SoundAll, array_inside, array_sound, all_none, all_more, all_parts, bytes_sound, hdr_sound, reads_sound, sound_reads}
use Rattle.coset_recipients.specs.PartsFields.{parts}
use Rattle.coset_recipients.specs.PartShapes.{HasParts}
use Rattle.coset_recipients.specs.PartsWritten.{optional_tree, parts_trees}
use Rattle.coset_recipients.proofs.PartsAgain.{parts_split}

-- ---- lists of trees
pub appended : (d : ℕ) (xs ys : List Tree) → SoundAll d (trees xs) → SoundAll d (trees ys) → SoundAll d (trees (xs ++ ys))
appended d [] ys a b = b
appended d (x ∷ xs) ys a b = let w = all_parts d x (trees xs) a in all_more d x (trees (xs ++ ys)) w.0 (appended d xs ys w.1 b)

behind : (d : ℕ) (x y z : Tree) (rest : Trees) → SoundAll d (one_more x (one_more y (one_more z rest))) → SoundAll d rest
behind d x y z rest s = (all_parts d z rest (all_parts d y (one_more z rest) (all_parts d x (one_more y (one_more z rest)) s).1).1).1

parts_sound : (n : ℕ) (x y z : Tree) (p : ProtectedFields) (u : HeaderFields) (c : Option (List ℕ)) (rest : Trees) (ts : List Tree) (k d : ℕ) → HasParts n x y z (parts p u c) k → parts_trees (parts p u c) ≡ Some ts
    → SoundAll d (one_more x (one_more y (one_more z rest))) → SoundAll d (trees ts)
parts_sound n x y z p u c rest ts k d h e s =
    let w = parts_split p u c ts e in
    let first = all_parts d x (one_more y (one_more z rest)) s in
    let second = all_parts d y (one_more z rest) first.1 in
    let third = all_parts d z rest second.1 in
    subst (λ q. SoundAll d (trees q)) w.4
    (all_more d (bytes w.0) (one_more w.1 (one_more (optional_tree c) no_trees)) (bytes_sound d w.0)
    (all_more d w.1 (one_more (optional_tree c) no_trees) (hdr_sound n u y w.1 k d h.unprotected w.3 second.0)
    (all_more d (optional_tree c) no_trees (subst (Sound d) h.content third.0) (all_none d))))

-- an array of the parts and of what is after them
pub whole_sound : (n : ℕ) (x y z : Tree) (p : ProtectedFields) (u : HeaderFields) (c : Option (List ℕ)) (rest : Trees) (ts ys : List Tree) (k d : ℕ) → HasParts n x y z (parts p u c) k → parts_trees (parts p u c) ≡ Some ts
    → Sound d (array (one_more x (one_more y (one_more z rest)))) → (SoundAll (d - 1) rest → SoundAll (d - 1) (trees ys)) → Sound d (array (trees (ts ++ ys)))
whole_sound n x y z p u c rest ts ys k d h e s f =
    let m = array_inside d (one_more x (one_more y (one_more z rest))) s in
    array_sound d (trees (ts ++ ys)) m.0 (appended (d - 1) ts ys (parts_sound n x y z p u c rest ts k (d - 1) h e m.1) (f (behind (d - 1) x y z rest m.1)))

pub one_sound : (d : ℕ) (t : Tree) → Sound d t → SoundAll d (trees (t ∷ []))
one_sound d t s = all_more d t no_trees s (all_none d)

pub only : (d : ℕ) (t : Tree) → SoundAll d (one_more t no_trees) → Sound d t
only d t s = (all_parts d t no_trees s).0

-- ---- tags but those of bignums
tag_kept : (g : ℕ) (t : Tree) → (nat_eq g 2 || nat_eq g 3) ≡ false → tagged g t ≡ Some (tag g t)
tag_kept g (bytes b) e = ap (λ z. cond z (fold_bytes g b) (Some (tag g (bytes b)))) e
tag_kept g (integer i) e = refl
tag_kept g (text b) e = refl
tag_kept g (array ts) e = refl
tag_kept g (map_tree ps) e = refl
tag_kept g (tag n t) e = refl
tag_kept g (simple n) e = refl
tag_kept g (float f) e = refl

tag_deep : (g : ℕ) (t : Tree) → (nat_eq g 2 || nat_eq g 3) ≡ false → depth (tag g t) ≡ suc (depth t)
tag_deep g t e = ap (λ z. cond (z && is_bytes t) 0 (suc (depth t))) e

folded_inside : (g : ℕ) (t : Tree) (o : Option Tree) → (nat_eq g 2 || nat_eq g 3) ≡ false → option_and_then (tagged g) o ≡ Some (tag g t) → o ≡ Some t
folded_inside g t None e h = let k : None ≡ Some (tag g t) = h in absurd (let f : ⊥ = cc in f)
folded_inside g t (Some v) e h =
    let k : Some (tag g v) ≡ Some (tag g t) = sym (tag_kept g v e) ∙ h in
    let q : v ≡ t = cc in ap Some q

pub tag_inside : (d g : ℕ) (t : Tree) → (nat_eq g 2 || nat_eq g 3) ≡ false → Sound d (tag g t) → (1 ≤ d) × Sound (d - 1) t
tag_inside d g t e s =
    let h : suc (depth t) ≤ d = subst (λ z. z ≤ d) (tag_deep g t e) s.shallow in
    (omega (arith, h), record { shallow = omega (arith, h); folded = folded_inside g t (fold t) e s.folded; assigned = s.assigned })

pub tag_sound : (d g : ℕ) (t : Tree) → (nat_eq g 2 || nat_eq g 3) ≡ false → 1 ≤ d → Sound (d - 1) t → Sound d (tag g t)
tag_sound d g t e l s =
    let h : depth t ≤ d - 1 = s.shallow in
    let k : suc (depth t) ≤ d = omega (arith, h, l) in
    record { shallow = subst (λ z. z ≤ d) (sym (tag_deep g t e)) k; folded = ap (option_and_then (tagged g)) s.folded ∙ tag_kept g t e; assigned = s.assigned }

-- ---- bytes
pub item_again : {F : Type 0} (Shape : Tree → F → Type 0) (b : List ℕ) (f : F) (u : Tree) (i : HasItem Shape b f) → Fits u → (Sound nesting i.tree → Sound nesting u) → Shape u f → HasItem Shape (enc u) f
item_again Shape b f u i l s h = record { tree = u; reads = sound_reads nesting u l (s (reads_sound b nesting i.tree i.reads)); shape = h }

pub tagged_again : {F : Type 0} (g : ℕ) (Shape : Tree → F → Type 0) (b : List ℕ) (f : F) (u : Tree) (i : HasItem (Tagged g Shape) b f) → (nat_eq g 2 || nat_eq g 3) ≡ false → g < 2 ^ 64 → Fits u
    → (Sound 255 i.shape.0 → Sound 255 u) → Shape u f → HasItem (Tagged g Shape) (enc (tag g u)) f
tagged_again g Shape b f u i e q l s h =
    let m = tag_inside nesting g i.shape.0 e (subst (Sound nesting) i.shape.1 (reads_sound b nesting i.tree i.reads)) in
    record { tree = tag g u; reads = sound_reads nesting (tag g u) (q, l) (tag_sound nesting g u e m.0 (s m.1)); shape = (u, refl, h) }
