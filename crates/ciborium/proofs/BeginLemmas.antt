-- The item of a title is begun.
use Rattle.std.proofs.Common.{◌≡◌, ◌<◌, ◌+◌, ◌-◌, ◌^◌, inl, inr, ℕ, Bool, true, false, List, [], ◌∷◌, ◌++◌, length, Option, None, Some, refl, sym, ap, subst, ◌∙◌, arith, reverse}
use Rattle.std.proofs.lemmas.List.{length-reverse}
use Rattle.ciborium_ll.specs.Seen.{Seen, Takes}
use Rattle.ciborium_ll.specs.declared.hdr.Header.{Header}
use Rattle.ciborium_ll.specs.declared.hdr.Header.TheVariants.{Tag, Bytes, Array, Map}
use Rattle.ciborium_ll.specs.Title.{Title, title_of}
use Rattle.ciborium_value.specs.declared.value.Value.{Value}
use Rattle.ciborium_value.specs.Folding.{tagged}
use Rattle.ciborium_value.specs.Tree.{Tree, Trees, bytes, no_trees, flat}
use Rattle.ciborium_value.specs.View.{view, views, view_pairs}
use Rattle.ciborium.specs.declared.de.Error.{Error}
use Rattle.ciborium.specs.declared.frames.Frame.{Frame}
use Rattle.ciborium.specs.declared.frames.Frame.TheVariants as code
use Rattle.ciborium.specs.declared.frames.Opened.TheVariants as opens
use Rattle.ciborium.specs.Damage.{Damage, under_tag}
use Rattle.ciborium.specs.Levels.{Level, Fits, of_array, of_map, of_open_array, of_open_map, of_tag, Within}
use Rattle.ciborium.specs.Reading.{FailsAt, FailsAfterTitle, NamesFaultAfterTitle, IfKnown, IsFoldFault, ReadsAfterTitle, TagDamage, IsLeaf}
use Rattle.ciborium.proofs.Words.{TaggedAfterTitle}
use Rattle.ciborium_value.specs.Encoding.{enc}
use Rattle.ciborium.specs.Front.{Reads}
use Rattle.ciborium.specs.Exact.{Says, IsEncoded, LevelsExact, TitleExact, ItemExact}
use Rattle.ciborium.proofs.ExactSteps.{says_as}
use Rattle.ciborium.specs.Frames.{halves, opened, HaveHalf, Stage, IsItemIn, IsWhole, IsBegun, IsLow, IsFlagged, IsReadIn, Opening, BeginsItem, BeginFails, IfAsked, InHand, IsKept}
use Rattle.ciborium.proofs.ToldLemmas.{told_step, told_opened, told_titled, told_leaf, told_tagged}
use Rattle.ciborium.proofs.Once.{append_nil}
use Rattle.ciborium.proofs.Taking.{takes_then}
use Rattle.ciborium.proofs.TagLemmas.{tag_read, tag_level, tag_free, level_item, free_item, tag_fails, opens_level}
use Rattle.ciborium.proofs.ReaderLemmas.{fold_fails}
use Rattle.ciborium.proofs.LevelLemmas.{titled_fails, titled_read, level_opened}
use Rattle.ciborium.proofs.FrameLemmas.{last_pushed}

-- as many levels are open as frames
levels : (fs : List Frame) → length (opened fs) ≡ length fs
levels [] = refl
levels (code.Items l ∷ fs) = let h = levels fs in omega arith
levels (code.Entries l ∷ fs) = let h = levels fs in omega arith
levels (code.Tag n at k room ∷ fs) = let h = levels fs in omega arith

-- what is left of the limit
pub left_is : (limit left : ℕ) (x : Frame) (xs : List Frame) → left ≡ limit - length xs - 1 → left ≡ limit - length (opened (x ∷ reverse xs))
left_is limit left x xs e = let h = levels (x ∷ reverse xs) in let n = length-reverse xs in omega arith

pub begin_fails : {E : Type 0} (ends : E → Bool) (limit left at : ℕ) (h : Header) (x : Frame) (xs : List Frame) (old new : Seen) (e : Error E) → left ≡ limit - length xs - 1
    → NamesFaultAfterTitle ends h at (λ stop b f. Damage stop b left f) old new e → BeginFails ends limit (x ∷ reverse xs) h at old new e
begin_fails ends limit left at h x xs old new e same w from b off r t =
    titled_fails ends limit (opened (x ∷ reverse xs)) h from at old.offset new.offset old.left b e off t
    (subst (λ (z : ℕ). FailsAfterTitle ends h at old.offset old.left new.offset (λ stop b f. Damage stop b z f) e) (left_is limit left x xs same) w)

-- a level is opened
array_fits : (o : Option ℕ) → Fits no_trees (Array o)
array_fits (Some n) = of_array n (omega arith)
array_fits None = of_open_array

map_fits : (o : Option ℕ) → Fits no_trees (Map o)
map_fits (Some n) = of_map n (omega arith)
map_fits None = of_open_map

within_as : (limit : ℕ) (h k : Header) (done : Trees) (fs : List Level) (b y : List ℕ) → h ≡ k → done ≡ no_trees → y ≡ [] → Within limit (record { head = h; done = no_trees } ∷ fs) b
    → Within limit (record { head = k; done = done } ∷ fs) (b ++ y)
within_as limit h k done fs b y same none e w =
    subst (λ (z : List ℕ). Within limit (record { head = k; done = done } ∷ fs) z) (append_nil b ∙ ap (λ z. b ++ z) (sym e))
    (subst (λ (z : Trees). Within limit (record { head = k; done = z } ∷ fs) b) (sym none) (subst (λ (z : Header). Within limit (record { head = z; done = no_trees } ∷ fs) b) same w))

no_half : (h : Bool) (n : ℕ) → h ≡ false → h ≡ true → 0 < n
no_half h n e f = let g : false ≡ true = sym e ∙ f in cc

told_as : (k w w' : Bool) (h j : Header) (done : Trees) (fs : List Level) (b y : List ℕ) → h ≡ j → done ≡ no_trees → y ≡ [] → w' ≡ w → IfAsked k w (length b) (LevelsExact (record { head = h; done = no_trees } ∷ fs) b)
    → IfAsked k w' (length (b ++ y)) (LevelsExact (record { head = j; done = done } ∷ fs) (b ++ y))
told_as k w w' h j done fs b y same none e flag p =
    subst (λ (z : Bool). IfAsked k z (length (b ++ y)) (LevelsExact (record { head = j; done = done } ∷ fs) (b ++ y))) (sym flag)
    (subst (λ (z : List ℕ). IfAsked k w (length z) (LevelsExact (record { head = j; done = done } ∷ fs) z)) (append_nil b ∙ ap (λ z. b ++ z) (sym e))
    (subst (λ (z : Trees). IfAsked k w (length b) (LevelsExact (record { head = j; done = z } ∷ fs) b)) (sym none)
    (subst (λ (z : Header). IfAsked k w (length b) (LevelsExact (record { head = z; done = no_trees } ∷ fs) b)) same p)))

level_begins : (limit at now : ℕ) (h : Header) (f : Frame) (fs : List Frame) (w w' : Bool) (y : List ℕ) → IsBegun f h now w w' y → (k : Bool) (from : ℕ) (b : List ℕ) → HaveHalf fs → length (opened fs) < limit → InHand k w limit (opened fs) h at from now b
    → Stage k w' limit (f ∷ fs) None from (now + length y) (b ++ y)
level_begins limit at now h (code.Items l) fs w w' y i k from b r low t = (
  r,
  (
    within_as limit h (Array l.count) (views l.items.items) (opened fs) b y i.0 (ap views i.1) i.2
        (level_opened limit (opened fs) h at from now b t.0 low (subst (Fits no_trees) (sym i.0) (array_fits l.count))),
    told_as k w w' h (Array l.count) (views l.items.items) (opened fs) b y i.0 (ap views i.1) i.2 i.3 (told_opened k w limit (opened fs) h at from now b t),
  ),
)
level_begins limit at now h (code.Entries l) fs w w' y i k from b r low t = (
  (no_half l.half _ i.2, r),
  (
    within_as limit h (Map l.count) (halves l.half (flat (view_pairs l.entries.items))) (opened fs) b y i.0
        (ap (λ z. halves z (flat (view_pairs l.entries.items))) i.2 ∙ ap (λ z. flat (view_pairs z)) i.1) i.3
        (level_opened limit (opened fs) h at from now b t.0 low (subst (Fits no_trees) (sym i.0) (map_fits l.count))),
    told_as k w w' h (Map l.count) (halves l.half (flat (view_pairs l.entries.items))) (opened fs) b y i.0
        (ap (λ z. halves z (flat (view_pairs l.entries.items))) i.2 ∙ ap (λ z. flat (view_pairs z)) i.1) i.3 i.4 (told_opened k w limit (opened fs) h at from now b t),
  ),
)
level_begins limit at now h (code.Tag n p j room) fs w w' y i k from b r low t = (
  r,
  (
    record {
      before = b;
      title = y;
      within = subst (λ (z : Header). Within limit (record { head = z; done = no_trees } ∷ opened fs) b) i.0
          (level_opened limit (opened fs) h at from now b t.0 low (subst (Fits no_trees) (sym i.0) (of_tag n refl)));
      child = λ z r s. under_tag n refl (opens_level n j z i.1 r s);
      is_title = i.2;
      place = λ q. ap (λ z. z + length y) i.3;
      whole = refl;
    },
    told_titled k w w' (record { head = Tag n; done = no_trees } ∷ opened fs) j b y i.4
        (subst (λ (z : Header). IfAsked k w (length b) (LevelsExact (record { head = z; done = no_trees } ∷ opened fs) b)) i.0 (told_opened k w limit (opened fs) h at from now b t)),
  ),
)

pub level_begun : (limit left at now : ℕ) (h : Header) (f x : Frame) (xs ys : List Frame) (w w' : Bool) (y : List ℕ) → left ≡ limit - length xs - 1 → ys ≡ xs ++ x ∷ []
    → Opening h at now left w w' (opens.Level f) y → BeginsItem (x ∷ reverse xs) (f ∷ reverse ys) limit h at now None w w' y
level_begun limit left at now h f x xs ys w w' y same e i k from b r t =
    let low : length (opened (x ∷ reverse xs)) < limit = omega (arith, i.0, left_is limit left x xs same) in
    subst (λ (z : List Frame). Stage k w' limit (f ∷ z) None from (now + length y) (b ++ y)) (sym (last_pushed xs ys x e)) (level_begins limit at now h f (x ∷ reverse xs) w w' y i.1 k from b r low t)

-- the outermost level is opened
pub title_alone : (limit at now : ℕ) (h : Header) (k u : Bool) (title : List ℕ) → Title title h → IfAsked k u (length title) ((title ≡ title_of h) × IsEncoded h) → InHand k u limit [] h at at now title
title_alone limit at now h k u title t flag = (
  record { before = []; title = title; within = refl; child = λ b r s. tt; is_title = t; place = λ q. q; whole = refl },
  told_step k u u (length title) (length title) ((title ≡ title_of h) × IsEncoded h) (TitleExact [] h [] title) (omega arith) (λ l p. says_as u ((title ≡ title_of h) × IsEncoded h) (TitleExact [] h [] title) (λ x. ((tt, refl), x.0, x.1)) (λ x. (x.1, x.2)) p) flag,
)

pub first_begun : (limit at now : ℕ) (h : Header) (f : Frame) (k u w : Bool) (title y : List ℕ) → Opening h at now limit u w (opens.Level f) y → Title title h → IfAsked k u (length title) ((title ≡ title_of h) × IsEncoded h)
    → Stage k w limit (f ∷ []) None at (now + length y) (title ++ y)
first_begun limit at now h f k u w title y i t flag = level_begins limit at now h f [] u w y i.1 k at title tt i.0 (title_alone limit at now h k u title t flag)

-- a value in no level is the whole
pub whole_read : (k w : Bool) (limit : ℕ) (v : Value) (b : List ℕ) → IsItemIn k w limit [] v b → IsWhole k w limit v b
whole_read k w limit v b (p, q) =
    let n : limit - 0 ≡ limit = omega arith in (
      subst (λ (z : ℕ). Reads b z (view v)) n (subst (λ (z : List ℕ). Reads z (limit - 0) (view v)) (sym (p.whole ∙ ap (λ z. z ++ (p.title ++ p.rest)) p.within)) p.reads),
      told_step k w w (length b) (length b) (ItemExact [] (view v) b) (b ≡ enc (view v)) (omega arith) (λ l x. says_as w (ItemExact [] (view v) b) (b ≡ enc (view v)) (λ i. i.1) (λ i. (tt, i)) x) q,
    )

pub first_read : (h : Header) (at now limit : ℕ) (u w : Bool) (v : Value) (title y : List ℕ) → Opening h at now limit u w (opens.Leaf v) y → Title title h
    → Reads (title ++ y) limit (view v) × (length (title ++ y) < 2 ^ 64 → Says u ((title ≡ title_of h) × IsEncoded h) → Says w (title ++ y ≡ enc (view v)))
first_read h at now limit u w v title y i t = (
  (whole_read false w limit v (title ++ y) (i false limit at [] title (omega arith) (title_alone limit at now h false u title t tt))).0,
  λ l says. (whole_read true w limit v (title ++ y) (i true limit at [] title (omega arith) (title_alone limit at now h true u title t (λ m. says)))).1 l,
)

-- a leaf is read
pub leaf_read : (h : Header) (at now left : ℕ) (w : Bool) (v : Value) (y : List ℕ) → IsLeaf h → ((low : ℕ) → ReadsAfterTitle h low (view v) y) → IsReadIn h at now left w w v y
leaf_read h at now left w v y leaf s k limit from fs b same t =
    let low = limit - length fs in
    (titled_read limit fs h at from now b y (view v) t.0 (s low), told_leaf k w limit low fs h (view v) at from now b y t leaf (s low))

-- a leaf after its tag
pub leaf_tagged : (left n : ℕ) (j : Header) (c : Tree) (x y : List ℕ) → IsLow left n j → Title x j → ((o : Option ℕ) → j ≡ Bytes o → (z : List ℕ) × (c ≡ bytes z))
    → ((low : ℕ) → ReadsAfterTitle j low c y) → TaggedAfterTitle n left c (x ++ y)
leaf_tagged left n j c x y low t string s = go low
  where
    go : IsLow left n j → TaggedAfterTitle n left c (x ++ y)
    go (inl (over, some)) = tag_level n left c (x ++ y) some (s (left - 1) x t)
    go (inr (which, (o, is))) = let z = string o is in tag_free n left 0 z.0 c (x ++ y) which z.1 (s 0 x t)

pub tagged_leaf : (at now left n : ℕ) (j : Header) (c v : Value) (w w₁ w' : Bool) (x y : List ℕ) → IsLeaf j → IsLow left n j → Title x j → IsFlagged w w₁ j x → ((o : Option ℕ) → j ≡ Bytes o → (z : List ℕ) × (view c ≡ bytes z))
    → tagged n (view c) ≡ Some (view v) → IsKept n (view c) (view v) w₁ w' → ((low : ℕ) → ReadsAfterTitle j low (view c) y) → IsReadIn (Tag n) at now left w w' v (x ++ y)
tagged_leaf at now left n j c v w w₁ w' x y leaf low title flag string e kept s k limit from fs b same t =
    let q : ReadsAfterTitle (Tag n) left (view v) (x ++ y) = tag_read n left (view c) (view v) (x ++ y) (leaf_tagged left n j (view c) x y low title string s) e in (
      titled_read limit fs (Tag n) at from now b (x ++ y) (view v) t.0 (subst (λ (z : ℕ). ReadsAfterTitle (Tag n) z (view v) (x ++ y)) same q),
      told_tagged k w w₁ w' limit left fs n j (view c) (view v) at from now b x y t leaf title flag s q e kept,
    )

-- it is put into its level
pub leaf_begun : (limit left at now : ℕ) (h : Header) (x : Frame) (xs : List Frame) (v : Value) (w w' : Bool) (y : List ℕ) → left ≡ limit - length xs - 1 → Opening h at now left w w' (opens.Leaf v) y
    → BeginsItem (x ∷ reverse xs) (x ∷ reverse xs) limit h at now (Some v) w w' y
leaf_begun limit left at now h x xs v w w' y same i k from b r t = (r, i k limit from (opened (x ∷ reverse xs)) b (left_is limit left x xs same) t)

-- no leaf is read after its tag
pub leaf_fails : {E : Type 0} (ends : E → Bool) (left at place n : ℕ) (k : Header) (old mid new : Seen) (e : Error E) → IsLow left n k → place ≡ old.offset → Takes old mid (λ b. Title b k)
    → ((low : ℕ) → NamesFaultAfterTitle ends k place (λ stop b f. Damage stop b low f) mid new e) → NamesFaultAfterTitle ends (Tag n) at (λ stop b f. Damage stop b left f) old new e
leaf_fails ends left at place n k old mid new e low same t w = tag_fails ends n at left old.left old.offset new.offset e (go low)
  where
    go : IsLow left n k → IfKnown old.left (λ b. FailsAt ends b old.offset new.offset (TagDamage n left) e)
    go (inl (over, some)) = level_item ends n left place k old.left mid.left old.offset mid.offset new.offset e over some t same (w (left - 1))
    go (inr (which, (o, is))) = free_item ends n left place o k old.left mid.left old.offset mid.offset new.offset e which is t same (w left)

pub leaf_folds : {E : Type 0} (ends : E → Bool) (left at n : ℕ) (k : Header) (c : Tree) (old mid new : Seen) (e : Error E) → IsLow left n k → Takes old mid (λ b. Title b k)
    → Takes mid new (λ b. (low : ℕ) → ReadsAfterTitle k low c b) → ((o : Option ℕ) → k ≡ Bytes o → (z : List ℕ) × (c ≡ bytes z)) → IsFoldFault n c e → NamesFaultAfterTitle ends (Tag n) at (λ stop b f. Damage stop b left f) old new e
leaf_folds ends left at n k c old mid new e low t s string w =
    fold_fails ends n at left c old.left new.left old.offset new.offset e w
    (takes_then _ _ _ _ _ _ (λ b. Title b k) (λ b. (low : ℕ) → ReadsAfterTitle k low c b) (λ b. TaggedAfterTitle n left c b) t s
    (λ x y i r. leaf_tagged left n k c x y low i string r))
