-- What is written of a message that was read is there, has its fields again, nests no deeper than
-- it did, and is read again. Each of these rests on the same of the parts and of the last items.
use Rattle.std.proofs.Common.{◌≡◌, ◌≢◌, ℕ, ◌≤◌, ◌<◌, ◌-◌, ◌^◌, List, [], ◌∷◌, ◌++◌, length, false, Option, Some, None, option_map, sym, ap, subst, ◌∙◌, arith}
use Rattle.std.specs.Prelude.{◌||◌, nat_eq}
use Rattle.ciborium.specs.Front.{Reads}
use Rattle.ciborium_value.specs.Tree.{Tree, bytes, array, tag, tree_count}
use Rattle.ciborium_value.specs.View.{trees}
use Rattle.ciborium_value.specs.Encoding.{enc, Fits, FitAll}
use Rattle.coset_labels.specs.Arrays.{all_written}
use Rattle.coset_labels.specs.Reading.{HasItem, Tagged}
use Rattle.coset_headers.specs.Fields.{HeaderFields, ProtectedFields}
use Rattle.coset_headers.proofs.Sound.{Sound, SoundAll, all_none, all_more, all_parts, bytes_sound, reads_sound, sound_reads}
use Rattle.coset_headers.proofs.Writable.{some_is, map_some, and_some}
use Rattle.coset_recipients.specs.PartsFields.{parts}
use Rattle.coset_recipients.specs.PartShapes.{HoldOf, HasWhole}
use Rattle.coset_recipients.specs.PartsShort.{PartsShort}
use Rattle.coset_recipients.specs.PartsWritten.{optional_tree, parts_trees, whole_tree}
use Rattle.coset_recipients.proofs.PartsAgain.{map_made, and_made, parts_made}
use Rattle.coset_recipients.proofs.PartsFit.{whole_fit}
use Rattle.coset_recipients.proofs.PartsSound.{whole_sound, item_again, tagged_again}
use Rattle.coset_recipients.proofs.PartsWritable.{parts_some}

-- o, which is written for an item of which P holds, is there, and P holds of it
pub record Kept (P : Tree → Type 0) (o : Option Tree) : Type 0 where
  pub some : (x : Tree) → P x → o ≢ None
  pub again : (x y : Tree) → P x → o ≡ Some y → P y
  pub sound : (d : ℕ) (x y : Tree) → P x → o ≡ Some y → Sound d x → Sound d y

abbrev pub AllKept : List (Tree → Type 0) → List (Option Tree) → Type 0
AllKept [] [] = Unit {0}
AllKept [] (o ∷ os) = ⊥
AllKept (P ∷ Ps) [] = ⊥
AllKept (P ∷ Ps) (o ∷ os) = Kept P o × AllKept Ps os

some_same : (x y : Tree) → Some x ≡ Some y → x ≡ y
some_same x y e = cc

pub bytes_kept : (b : List ℕ) → Kept (λ x. x ≡ bytes b) (Some (bytes b))
bytes_kept b = record {
  some = λ x h. some_is (bytes b);
  again = λ x y h e. sym (some_same (bytes b) y e);
  sound = λ d x y h e s. subst (Sound d) (some_same (bytes b) y e) (bytes_sound d b);
}

-- ---- the last items
-- the first that is written, and the others
pub record WroteMore {F : Type 0} (written : F → Option Tree) (f : F) (fs : List F) (us : List Tree) : Type 0 where
  pub first : Tree
  pub rest : List Tree
  pub first_is : written f ≡ Some first
  pub rest_are : all_written written fs ≡ Some rest
  pub are : first ∷ rest ≡ us

pub more_wrote : {F : Type 0} (written : F → Option Tree) (f : F) (fs : List F) (us : List Tree) → all_written written (f ∷ fs) ≡ Some us → WroteMore written f fs us
more_wrote written f fs us e =
    let t = and_made (λ t. option_map (λ ts. t ∷ ts) (all_written written fs)) (written f) us e in
    let r = map_made (λ ts. t.0 ∷ ts) (all_written written fs) us t.2 in
    record { first = t.0; rest = r.0; first_is = t.1; rest_are = r.1; are = r.2 }

pub none_wrote : {F : Type 0} (written : F → Option Tree) (us : List Tree) → all_written written [] ≡ Some us → [] ≡ us
none_wrote written us e = let q : Some [] ≡ Some us = e in cc

lasts_some : (Ps : List (Tree → Type 0)) (os : List (Option Tree)) (xs : List Tree) → AllKept Ps os → HoldOf Ps xs → all_written (λ o. o) os ≢ None
lasts_some [] [] xs a h = some_is []
lasts_some (P ∷ Ps) (o ∷ os) [] a h = absurd h
lasts_some (P ∷ Ps) (o ∷ os) (x ∷ xs) a h = and_some _ o (a.0.some x h.0) (λ t. map_some _ (all_written (λ o. o) os) (lasts_some Ps os xs a.1 h.1))
lasts_some Ps os xs a h = absurd a

lasts_again : (Ps : List (Tree → Type 0)) (os : List (Option Tree)) (xs ys : List Tree) → AllKept Ps os → HoldOf Ps xs → all_written (λ o. o) os ≡ Some ys → HoldOf Ps ys
lasts_again [] [] xs ys a h e = subst (HoldOf []) (none_wrote (λ (o : Option Tree). o) ys e) tt
lasts_again (P ∷ Ps) (o ∷ os) [] ys a h e = absurd h
lasts_again (P ∷ Ps) (o ∷ os) (x ∷ xs) ys a h e =
    let w = more_wrote (λ (o : Option Tree). o) o os ys e in
    subst (HoldOf (P ∷ Ps)) w.are (a.0.again x w.first h.0 w.first_is, lasts_again Ps os xs w.rest a.1 h.1 w.rest_are)
lasts_again Ps os xs ys a h e = absurd a

lasts_sound : (d : ℕ) (Ps : List (Tree → Type 0)) (os : List (Option Tree)) (xs ys : List Tree) → AllKept Ps os → HoldOf Ps xs → all_written (λ o. o) os ≡ Some ys → SoundAll d (trees xs) → SoundAll d (trees ys)
lasts_sound d [] [] xs ys a h e s = subst (λ z. SoundAll d (trees z)) (none_wrote (λ (o : Option Tree). o) ys e) (all_none d)
lasts_sound d (P ∷ Ps) (o ∷ os) [] ys a h e s = absurd h
lasts_sound d (P ∷ Ps) (o ∷ os) (x ∷ xs) ys a h e s =
    let w = more_wrote (λ (o : Option Tree). o) o os ys e in
    let both = all_parts d x (trees xs) s in
    subst (λ z. SoundAll d (trees z)) w.are
    (all_more d w.first (trees w.rest) (a.0.sound d x w.first h.0 w.first_is both.0) (lasts_sound d Ps os xs w.rest a.1 h.1 w.rest_are both.1))
lasts_sound d Ps os xs ys a h e s = absurd a

-- ---- messages
pub record Wrote (p : ProtectedFields) (u : HeaderFields) (c : Option (List ℕ)) (os : List (Option Tree)) (v : Tree) : Type 0 where
  pub firsts : List Tree
  pub lasts : List Tree
  pub firsts_are : parts_trees (parts p u c) ≡ Some firsts
  pub lasts_are : all_written (λ o. o) os ≡ Some lasts
  pub is : array (trees (firsts ++ lasts)) ≡ v

pub whole_wrote : (p : ProtectedFields) (u : HeaderFields) (c : Option (List ℕ)) (os : List (Option Tree)) (v : Tree) → whole_tree (parts p u c) os ≡ Some v → Wrote p u c os v
whole_wrote p u c os v e =
    let w = and_made (λ parts. option_map (λ ls. array (trees (parts ++ ls))) (all_written (λ o. o) os)) (parts_trees (parts p u c)) v e in
    let l = map_made (λ ls. array (trees (w.0 ++ ls))) (all_written (λ o. o) os) v w.2 in
    record { firsts = w.0; lasts = l.0; firsts_are = w.1; lasts_are = l.1; is = l.2 }

pub whole_kept : (n : ℕ) (p : ProtectedFields) (u : HeaderFields) (c : Option (List ℕ)) (Ps : List (Tree → Type 0)) (os : List (Option Tree)) (k : ℕ) → AllKept Ps os → Kept (λ t. HasWhole n t (parts p u c) Ps k) (whole_tree (parts p u c) os)
whole_kept n p u c Ps os k a = record {
  some = λ t h. and_some _ (parts_trees (parts p u c)) (parts_some n h.first h.second h.third p u c k h.parts) (λ parts. map_some _ (all_written (λ o. o) os) (lasts_some Ps os h.lasts a h.hold));
  again = λ t v h e.
      let w = whole_wrote p u c os v e in
      let q = parts_made n h.first h.second h.third p u c w.firsts k h.parts w.firsts_are in
      record {
        first = q.first;
        second = q.second;
        third = optional_tree c;
        lasts = w.lasts;
        is = sym w.is ∙ ap (λ z. array (trees (z ++ w.lasts))) (sym q.is);
        parts = q.parts;
        hold = lasts_again Ps os h.lasts w.lasts a h.hold w.lasts_are;
      };
  sound = λ d t v h e s.
      let w = whole_wrote p u c os v e in
      subst (Sound d) w.is
      (whole_sound n h.first h.second h.third p u c (trees h.lasts) w.firsts w.lasts k d h.parts w.firsts_are (subst (Sound d) h.is s)
      (λ r. lasts_sound (d - 1) Ps os h.lasts w.lasts a h.hold w.lasts_are r));
}

-- ---- bytes
pub kept_reads : (P : Tree → Type 0) (o : Option Tree) → Kept P o → (limit : ℕ) (b : List ℕ) (t u : Tree) → Reads b limit t → P t → o ≡ Some u → Fits u → Reads (enc u) limit u × P u
kept_reads P o a limit b t u i h e l = (sound_reads limit u l (a.sound limit t u h e (reads_sound b limit t i)), a.again t u h e)

pub kept_item : {F : Type 0} (Shape : Tree → F → Type 0) (f : F) (o : Option Tree) → Kept (λ t. Shape t f) o → (b : List ℕ) (u : Tree) → ((t : Tree) → Shape t f → Fits u) → HasItem Shape b f → o ≡ Some u → HasItem Shape (enc u) f
kept_item Shape f o a b u l i e = item_again Shape b f u i (l i.tree i.shape) (λ s. a.sound 256 i.tree u i.shape e s) (a.again i.tree u i.shape e)

pub kept_tagged : {F : Type 0} (g : ℕ) (Shape : Tree → F → Type 0) (f : F) (o : Option Tree) → (nat_eq g 2 || nat_eq g 3) ≡ false → g < 2 ^ 64 → Kept (λ t. Shape t f) o → (b : List ℕ) (u : Tree)
    → ((t : Tree) → Shape t f → Fits u) → HasItem (Tagged g Shape) b f → o ≡ Some u → HasItem (Tagged g Shape) (enc (tag g u)) f
kept_tagged g Shape f o q m a b u l i e =
    let h = i.shape.2 in
    tagged_again g Shape b f u i q m (l i.shape.0 h) (λ s. a.sound 255 i.shape.0 u h e s) (a.again i.shape.0 u h e)

-- ---- heads
-- what is written of each item fits
abbrev pub AllFit : List (Option Tree) → Type 0
AllFit [] = Unit {0}
AllFit (o ∷ os) = ((y : Tree) → o ≡ Some y → Fits y) × AllFit os

pub some_fits : (x y : Tree) → Fits x → Some x ≡ Some y → Fits y
some_fits x y f e = subst Fits (some_same x y e) f

lasts_fit : (os : List (Option Tree)) (ys : List Tree) → AllFit os → all_written (λ o. o) os ≡ Some ys → FitAll (trees ys)
lasts_fit [] ys f e = subst (λ z. FitAll (trees z)) (none_wrote (λ (o : Option Tree). o) ys e) tt
lasts_fit (o ∷ os) ys f e =
    let w = more_wrote (λ (o : Option Tree). o) o os ys e in
    subst (λ z. FitAll (trees z)) w.are (f.0 w.first w.first_is, lasts_fit os w.rest f.1 w.rest_are)

pub wrote_count : {F : Type 0} (written : F → Option Tree) (fs : List F) (ys : List Tree) → all_written written fs ≡ Some ys → tree_count (trees ys) ≡ length fs
wrote_count written [] ys e = ap (λ z. tree_count (trees z)) (sym (none_wrote written ys e))
wrote_count written (f ∷ fs) ys e =
    let w = more_wrote written f fs ys e in
    let h = wrote_count written fs w.rest w.rest_are in let g = ap (λ z. tree_count (trees z)) w.are in omega (arith, h, g)

pub whole_fits : (p : ProtectedFields) (u : HeaderFields) (c : Option (List ℕ)) (os : List (Option Tree)) (v : Tree) → ((ts : List Tree) → parts_trees (parts p u c) ≡ Some ts → PartsShort p u → FitAll (trees ts)) → PartsShort p u → AllFit os
    → length os ≤ 2 → whole_tree (parts p u c) os ≡ Some v → Fits v
whole_fits p u c os v f s g l e =
    let w = whole_wrote p u c os v e in
    let m = wrote_count (λ (o : Option Tree). o) os w.lasts w.lasts_are in
    subst Fits w.is (whole_fit p u c w.firsts w.lasts w.firsts_are (f w.firsts w.firsts_are s) (omega (arith, m, l)) (lasts_fit os w.lasts g w.lasts_are))
