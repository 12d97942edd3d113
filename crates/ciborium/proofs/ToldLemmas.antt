-- What the reader's flag tells from step to step.
use Rattle.std.proofs.Common.{◌≡◌, ◌≢◌, ◌≤◌, ◌<◌, ◌-◌, ◌*◌, ◌^◌, ◌&&◌, ℕ, Bool, true, false, not, List, [], ◌∷◌, ◌++◌, length, Option, None, Some, refl, sym, ap, subst, ◌∙◌, arith, nat_eq, append_assoc, length-append}
use Rattle.std.proofs.lemmas.Bool.Decides.{nat_tests}
use Rattle.ciborium_ll.specs.declared.hdr.Header.{Header}
use Rattle.ciborium_ll.specs.declared.hdr.Header.TheVariants.{Positive, Negative, Float, Simple, Tag, Break, Bytes, Text, Array, Map}
use Rattle.ciborium_ll.specs.Title.{Title, title_of}
use Rattle.ciborium_value.specs.Encoding.{enc}
use Rattle.ciborium_value.specs.Folding.{tagged}
use Rattle.ciborium_value.specs.Tree.{Tree, Trees, Pairs, array, bytes, map, tag, no_trees, flat, tree_count}
use Rattle.ciborium.specs.Exact.{Says, IsEncoded, encoded, LevelsExact, TitleExact, ItemExact, AllFit}
use Rattle.ciborium.specs.Levels.{Level, Within, Titled, Handing}
use Rattle.ciborium.specs.Reading.{IsLeaf, ReadsAfterTitle, Closes}
use Rattle.ciborium.specs.Frames.{snoc, IfAsked, IsFlagged, IsKept, IsLengthOf, InHand}
use Rattle.ciborium.proofs.Once.{append_nil}
use Rattle.ciborium.proofs.ChildLemmas.{none_read, flat_count}
use Rattle.ciborium.proofs.ExactSound.{reads_sound, all_sound, title_fits, within_fits}
use Rattle.std.specs.Prelude.{MatchOption, MatchBool}
use Rattle.ciborium.proofs.ExactSteps.{says_and, bignum_stays}
use Rattle.ciborium.proofs.ExactTurns.{plain_stays, turn_titled, turn_opened, turn_leaf, turn_handed, turn_closed, turn_array_broken, turn_map_broken, turn_folded, turn_bignum, leaf_exact, array_enc, map_enc}
use Rattle.ciborium.proofs.LevelLemmas.{joined_up, tag_whole}

pub told_step : (k w w' : Bool) (n m : ℕ) (P Q : Type 0) → n ≤ m → (m < 2 ^ 64 → Says w P → Says w' Q) → IfAsked k w n P → IfAsked k w' m Q
told_step false w w' n m P Q few step p = tt
told_step true w w' n m P Q few step p = λ l. step l (p (omega arith))

pub longer : (b y : List ℕ) → length b ≤ length (b ++ y)
longer b y = omega (arith, length-append b y)

-- whether a header is in an encoding
pub encoded_says : (h : Header) → Says (encoded h) (IsEncoded h)
encoded_says (Positive n) = tt
encoded_says (Negative n) = tt
encoded_says (Float f) = tt
encoded_says (Simple n) = go (nat_eq n 23) refl
  where
    go : (v : Bool) → nat_eq n 23 ≡ v → Says (not v) (n ≢ 23)
    go true e = let h : n ≡ 23 = grind (arith, nat_tests) in λ f. f h
    go false e = λ f. grind (arith, nat_tests)
encoded_says (Tag n) = tt
encoded_says Break = tt
encoded_says (Bytes (Some n)) = tt
encoded_says (Bytes None) = λ x. x
encoded_says (Text (Some n)) = tt
encoded_says (Text None) = λ x. x
encoded_says (Array (Some n)) = tt
encoded_says (Array None) = λ x. x
encoded_says (Map (Some n)) = tt
encoded_says (Map None) = λ x. x

-- a title is taken
flagged_titled : (w w' : Bool) (fs : List Level) (h : Header) (b y : List ℕ) → IsFlagged w w' h y → Says w (LevelsExact fs b) → Says w' (TitleExact fs h b y)
flagged_titled w w' fs h b y (u, s, e) p =
    subst (λ (z : Bool). Says z (TitleExact fs h b y)) (sym e) (turn_titled w u (encoded h) fs h b y p s (encoded_says h))

pub told_titled : (k w w' : Bool) (fs : List Level) (h : Header) (b y : List ℕ) → IsFlagged w w' h y → IfAsked k w (length b) (LevelsExact fs b) → IfAsked k w' (length (b ++ y)) (TitleExact fs h b y)
told_titled k w w' fs h b y f p = told_step k w w' (length b) (length (b ++ y)) (LevelsExact fs b) (TitleExact fs h b y) (longer b y) (λ l q. flagged_titled w w' fs h b y f q) p

-- a level is opened
before_few : (limit : ℕ) (fs : List Level) (h : Header) (at from now : ℕ) (b : List ℕ) (t : Titled limit fs h at from now b) → length b < 2 ^ 64 → AllFit fs
before_few limit fs h at from now b t l = within_fits limit fs t.before t.within (omega (arith, ap length t.whole, length-append t.before t.title))

pub told_opened : (k w : Bool) (limit : ℕ) (fs : List Level) (h : Header) (at from now : ℕ) (b : List ℕ) → InHand k w limit fs h at from now b → IfAsked k w (length b) (LevelsExact (record { head = h; done = no_trees } ∷ fs) b)
told_opened k w limit fs h at from now b (t, p) =
    told_step k w w (length b) (length b) (TitleExact fs h t.before t.title) (LevelsExact (record { head = h; done = no_trees } ∷ fs) b) (omega arith)
    (λ l q. subst (λ (z : List ℕ). Says w (LevelsExact (record { head = h; done = no_trees } ∷ fs) z)) (sym t.whole)
    (turn_opened w limit fs h t.before t.title t.within (before_few limit fs h at from now b t l) t.is_title (title_fits h t.title t.is_title) q)) p

-- an item is handed to its level
pub told_handed : (k w : Bool) (f g : Level) (fs : List Level) (v : Tree) (b : List ℕ) → g.head ≡ f.head → g.done ≡ snoc f.done v → IfAsked k w (length b) (ItemExact (f ∷ fs) v b) → IfAsked k w (length b) (LevelsExact (g ∷ fs) b)
told_handed k w f g fs v b same more p =
    told_step k w w (length b) (length b) (ItemExact (f ∷ fs) v b) (LevelsExact (g ∷ fs) b) (omega arith)
    (λ l q. subst (λ (z : Header). Says w (LevelsExact (record { head = z; done = g.done } ∷ fs) b)) (sym same)
    (subst (λ (z : Trees). Says w (LevelsExact (record { head = f.head; done = z } ∷ fs) b)) (sym more) (turn_handed w fs f v b q))) p

-- an array and a map are closed
pub told_array : (k w : Bool) (o : Option ℕ) (limit : ℕ) (fs : List Level) (vs : Trees) (d : ℕ) (p y b : List ℕ) → tree_count vs ≡ d → Within limit (record { head = Array o; done = vs } ∷ fs) p → Closes o d y → b ≡ p ++ y
    → IfAsked k w (length p) (LevelsExact (record { head = Array o; done = vs } ∷ fs) p) → IfAsked k w (length b) (ItemExact fs (array vs) b)
told_array k w (Some n) limit fs vs d p y b count within ends whole told =
    told_step k w w (length p) (length b) (LevelsExact (record { head = Array (Some n); done = vs } ∷ fs) p) (ItemExact fs (array vs) b) (omega (arith, ap length whole, length-append p y))
    (λ l q. subst (λ (z : List ℕ). Says w (ItemExact fs (array vs) z)) (append_nil p ∙ ap (λ z. p ++ z) (sym ends.1) ∙ sym whole)
    (turn_closed w fs (record { head = Array (Some n); done = vs }) (array vs) p tt (array_enc n vs (ends.0 ∙ sym count)) q)) told
told_array k w None limit fs vs d p y b count (x, z, within, child, low, begun, is) ends whole told =
    told_step k w w (length p) (length b) (LevelsExact (record { head = Array None; done = vs } ∷ fs) p) (ItemExact fs (array vs) b) (omega (arith, ap length whole, length-append p y))
    (λ l q.
    let lp : length p < 2 ^ 64 = omega (arith, ap length whole, length-append p y) in
    let lz : length z < 2 ^ 64 = omega (arith, ap length is, length-append x z) in
    let li : length begun.inner < 2 ^ 64 = omega (arith, ap length begun.whole, length-append begun.title begun.inner) in
    let few = all_sound begun.reads.trees vs begun.inner begun.reads.spells begun.reads.means li in
    subst (λ (a : List ℕ). Says w (ItemExact fs (array vs) a)) (sym (joined_up p x z begun.title begun.inner (255 ∷ []) is begun.whole) ∙ ap (λ a. p ++ a) (sym ends) ∙ sym whole)
    (turn_array_broken w limit fs vs x begun.title begun.inner within (within_fits limit fs x within (omega (arith, ap length is, length-append x z))) begun.is_title (omega (arith, few.1))
    (subst (λ (a : List ℕ). Says w (LevelsExact (record { head = Array None; done = vs } ∷ fs) a)) (is ∙ ap (λ a. x ++ a) begun.whole) q))) told

pub told_map : (k w : Bool) (o : Option ℕ) (limit : ℕ) (fs : List Level) (ps : Pairs) (d : ℕ) (p y b : List ℕ) → tree_count (flat ps) ≡ 2 * d → Within limit (record { head = Map o; done = flat ps } ∷ fs) p → Closes o d y → b ≡ p ++ y
    → IfAsked k w (length p) (LevelsExact (record { head = Map o; done = flat ps } ∷ fs) p) → IfAsked k w (length b) (ItemExact fs (map ps) b)
told_map k w (Some n) limit fs ps d p y b count within ends whole told =
    told_step k w w (length p) (length b) (LevelsExact (record { head = Map (Some n); done = flat ps } ∷ fs) p) (ItemExact fs (map ps) b) (omega (arith, ap length whole, length-append p y))
    (λ l q. subst (λ (z : List ℕ). Says w (ItemExact fs (map ps) z)) (append_nil p ∙ ap (λ z. p ++ z) (sym ends.1) ∙ sym whole)
    (turn_closed w fs (record { head = Map (Some n); done = flat ps }) (map ps) p tt (map_enc n ps (omega (arith, ends.0, count, flat_count ps))) q)) told
told_map k w None limit fs ps d p y b count (x, z, within, child, low, begun, is) ends whole told =
    told_step k w w (length p) (length b) (LevelsExact (record { head = Map None; done = flat ps } ∷ fs) p) (ItemExact fs (map ps) b) (omega (arith, ap length whole, length-append p y))
    (λ l q.
    let lp : length p < 2 ^ 64 = omega (arith, ap length whole, length-append p y) in
    let lz : length z < 2 ^ 64 = omega (arith, ap length is, length-append x z) in
    let li : length begun.inner < 2 ^ 64 = omega (arith, ap length begun.whole, length-append begun.title begun.inner) in
    let few = all_sound begun.reads.trees (flat ps) begun.inner begun.reads.spells begun.reads.means li in
    subst (λ (a : List ℕ). Says w (ItemExact fs (map ps) a)) (sym (joined_up p x z begun.title begun.inner (255 ∷ []) is begun.whole) ∙ ap (λ a. p ++ a) (sym ends) ∙ sym whole)
    (turn_map_broken w limit fs ps x begun.title begun.inner within (within_fits limit fs x within (omega (arith, ap length is, length-append x z))) begun.is_title (omega (arith, few.1, flat_count ps))
    (subst (λ (a : List ℕ). Says w (LevelsExact (record { head = Map None; done = flat ps } ∷ fs) a)) (is ∙ ap (λ a. x ++ a) begun.whole) q))) told

-- a tag is whole with its item
pub told_tag : (k w w' : Bool) (limit n : ℕ) (fs : List Level) (c v : Tree) (b : List ℕ) → Handing limit (record { head = Tag n; done = no_trees } ∷ fs) c b → tagged n c ≡ Some v → IsKept n c v w w'
    → IfAsked k w (length b) (ItemExact (record { head = Tag n; done = no_trees } ∷ fs) c b) → IfAsked k w' (length b) (ItemExact fs v b)
told_tag k w w' limit n fs c v b p e kept told =
    told_step k w w' (length b) (length b) (ItemExact (record { head = Tag n; done = no_trees } ∷ fs) c b) (ItemExact fs v b) (omega arith)
    (λ l q.
    let t = p.within in
    let g = t.5 in
    let whole = tag_whole limit n (record { head = Tag n; done = no_trees }) fs c v b refl refl p e in
    let nothing : g.inner ≡ [] = none_read g.inner (limit - length fs - 1) no_trees refl g.reads in
    let bytes : b ≡ (t.0 ++ g.title) ++ (p.title ++ p.rest) =
    p.whole ∙ ap (λ z. z ++ (p.title ++ p.rest)) (t.6 ∙ ap (λ z. t.0 ++ z) (g.whole ∙ ap (λ z. g.title ++ z) nothing ∙ sym (append_nil g.title))) in
    let few : length t.0 < 2 ^ 64 = omega (arith, ap length bytes, length-append (t.0 ++ g.title) (p.title ++ p.rest), length-append t.0 g.title) in
    let lw : length (whole.title ++ whole.rest) < 2 ^ 64 = omega (arith, ap length whole.whole, length-append whole.before (whole.title ++ whole.rest)) in
    subst (λ (z : List ℕ). Says w' (ItemExact fs v z)) (sym bytes)
    (turn_folded w w' limit (limit - length (record { head = Tag n; done = no_trees } ∷ fs)) fs n c v t.0 g.title (p.title ++ p.rest) t.2 (within_fits limit fs t.0 t.2 few) g.is_title (title_fits (Tag n) g.title g.is_title)
    p.reads e (reads_sound (limit - length fs) v (whole.title ++ whole.rest) whole.reads lw)
    (subst (λ (z : List ℕ). Says w (ItemExact (record { head = Tag n; done = no_trees } ∷ fs) c z)) bytes q) kept)) told

-- a leaf
behind_title : (limit : ℕ) (fs : List Level) (h : Header) (at from now : ℕ) (b y : List ℕ) (t : Titled limit fs h at from now b) → b ++ y ≡ t.before ++ (t.title ++ y)
behind_title limit fs h at from now b y t = ap (λ z. z ++ y) t.whole ∙ append_assoc t.before t.title y

pub told_leaf : (k w : Bool) (limit low : ℕ) (fs : List Level) (h : Header) (v : Tree) (at from now : ℕ) (b y : List ℕ) → InHand k w limit fs h at from now b → IsLeaf h → ReadsAfterTitle h low v y → IfAsked k w (length (b ++ y)) (ItemExact fs v (b ++ y))
told_leaf k w limit low fs h v at from now b y (t, p) leaf r =
    told_step k w w (length b) (length (b ++ y)) (TitleExact fs h t.before t.title) (ItemExact fs v (b ++ y)) (longer b y)
    (λ l q.
    let whole = behind_title limit fs h at from now b y t in
    let lb : length b < 2 ^ 64 = omega (arith, length-append b y) in
    let few : length (t.title ++ y) < 2 ^ 64 = omega (arith, ap length whole, length-append t.before (t.title ++ y)) in
    subst (λ (z : List ℕ). Says w (ItemExact fs v z)) (sym whole)
    (turn_leaf w limit low fs h v t.before t.title y t.within (before_few limit fs h at from now b t lb) leaf t.is_title (r t.title t.is_title) (reads_sound low v (t.title ++ y) (r t.title t.is_title) few) q)) p

-- a leaf after its tag
pub told_tagged : (k w w₁ w' : Bool) (limit low : ℕ) (fs : List Level) (n : ℕ) (j : Header) (c v : Tree) (at from now : ℕ) (b x y : List ℕ) → InHand k w limit fs (Tag n) at from now b → IsLeaf j → Title x j
    → IsFlagged w w₁ j x → ((deep : ℕ) → ReadsAfterTitle j deep c y) → ReadsAfterTitle (Tag n) low v (x ++ y) → tagged n c ≡ Some v → IsKept n c v w₁ w' → IfAsked k w' (length (b ++ (x ++ y))) (ItemExact fs v (b ++ (x ++ y)))
told_tagged k w w₁ w' limit low fs n j c v at from now b x y (t, p) leaf title (u, short, flag) r whole e kept =
    told_step k w w' (length b) (length (b ++ (x ++ y))) (TitleExact fs (Tag n) t.before t.title) (ItemExact fs v (b ++ (x ++ y))) (longer b (x ++ y))
    (λ l q.
    let bytes = behind_title limit fs (Tag n) at from now b (x ++ y) t in
    let lb : length b < 2 ^ 64 = omega (arith, length-append b (x ++ y)) in
    let lxy : length (x ++ y) < 2 ^ 64 = omega (arith, length-append b (x ++ y)) in
    let lw : length (t.title ++ (x ++ y)) < 2 ^ 64 = omega (arith, ap length bytes, length-append t.before (t.title ++ (x ++ y))) in
    let told = leaf_exact (u && encoded j) j low c x y leaf title (r low x title) (reads_sound low c (x ++ y) (r low x title) lxy) (says_and u (encoded j) (x ≡ title_of j) (IsEncoded j) short (encoded_says j)) in
    subst (λ (z : List ℕ). Says w' (ItemExact fs v z)) (sym bytes)
    (turn_bignum w₁ w' limit low fs n c v t.before t.title (x ++ y) t.within (before_few limit fs (Tag n) at from now b t lb) t.is_title (title_fits (Tag n) t.title t.is_title)
    (r low x title) e (reads_sound low v (t.title ++ (x ++ y)) (whole t.title t.is_title) lw)
    (subst (λ (z : Bool). Says z (TitleExact fs (Tag n) t.before t.title × (x ++ y ≡ enc c))) (sym flag) (says_and w (u && encoded j) (TitleExact fs (Tag n) t.before t.title) (x ++ y ≡ enc c) q told)) kept)) p

-- a fold that keeps its content
fold_says : (n : ℕ) (o : Option ℕ) (s : Bool) (c v : Tree) → tagged n c ≡ Some v → IsLengthOf o c
    → MatchOption o (s ≡ true) (λ m. MatchBool s ((x : List ℕ) × (v ≡ tag n (bytes x)) × (length x ≡ m)) ((x : List ℕ) → length x ≡ m → v ≢ tag n (bytes x))) → Says s (v ≡ tag n c)
fold_says n None s c v e other is = subst (λ (z : Bool). Says z (v ≡ tag n c)) (sym is) (plain_stays n c v other e)
fold_says n (Some m) true c v e (x, of, len) (y, is, same) =
    bignum_kept x y of (bignum_stays n x y v (ap (tagged n) (sym of) ∙ e) is (same ∙ sym len))
  where
    bignum_kept : (x y : List ℕ) → c ≡ bytes x → v ≡ tag n (bytes x) → v ≡ tag n c
    bignum_kept x y of p = p ∙ ap (tag n) (sym of)
fold_says n (Some m) false c v e (x, of, len) not = λ p. not x len (p ∙ ap (tag n) of)

and_kept : (w s w' : Bool) (P : Type 0) → w' ≡ (w && s) → Says s P → MatchBool w (Says w' P) (w' ≡ false)
and_kept true s w' P e q = subst (λ (z : Bool). Says z P) (sym e) q
and_kept false s w' P e q = e

pub fold_kept : (n : ℕ) (o : Option ℕ) (w s w' : Bool) (c v : Tree) → tagged n c ≡ Some v → IsLengthOf o c
    → MatchOption o (s ≡ true) (λ m. MatchBool s ((x : List ℕ) × (v ≡ tag n (bytes x)) × (length x ≡ m)) ((x : List ℕ) → length x ≡ m → v ≢ tag n (bytes x))) → w' ≡ (w && s) → IsKept n c v w w'
fold_kept n o w s w' c v e of is kept = and_kept w s w' (v ≡ tag n c) kept (fold_says n o s c v e of is)
