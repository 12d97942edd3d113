-- How the flag "encoded so far" goes on in a reader that keeps open levels, from title to title and
-- from fold to fold.
use Rattle.std.proofs.Common.{◌≡◌, ◌≢◌, ◌<◌, ℕ, pos, negsuc, ◌^◌, Bool, List, [], ◌∷◌, ◌++◌, length, Some, None, refl, sym, ap, subst, inl, inr, ◌∙◌, ◌&&◌, append_assoc}
use Rattle.std.proofs.lemmas.List.{append_cancel_left}
use Rattle.std.specs.Option.{option_and_then}
use Rattle.ciborium_ll.specs.declared.hdr.Header.{Header}
use Rattle.ciborium_ll.specs.declared.hdr.Header.TheVariants.{Float, Simple, Tag, Bytes, Text, Array, Map}
use Rattle.ciborium_ll.specs.Title.{Title, title_of, FitsHeader}
use Rattle.ciborium_ll.proofs.Shortest.{title_of_is}
use Rattle.ciborium_value.specs.Tree.{Tree, integer, bytes, text, array, map, tag, simple, float, Trees, no_trees, Pairs, no_pairs, pair_more, tree_count, pair_count, flat}
use Rattle.ciborium_value.specs.Encoding.{int_head, enc, enc_all, enc_pairs}
use Rattle.ciborium_value.specs.Folding.{tagged}
use Rattle.ciborium.specs.Spelling.{Spells}
use Rattle.ciborium.specs.Meaning.{meaning}
use Rattle.ciborium.specs.Front.{Reads}
use Rattle.ciborium.proofs.Once.{append_nil, once, title_once}
use Rattle.ciborium.proofs.ExactSound.{sound_spells}
use Rattle.ciborium.specs.Frames.{snoc, IsKept}
use Rattle.ciborium.proofs.Folded.{means_again}
use Rattle.ciborium.proofs.ExactWhole.{then_some, over_itself}
use Rattle.ciborium.specs.Exact.{Sound, Says, level_enc, levels_enc, AllEncoded, AllFit, LevelsExact, TitleExact, ItemExact, IsEncoded, head_of, behind}
use Rattle.ciborium_ll.specs.Framing.{Frame, whole, cut, joined, Any}
use Rattle.std.specs.Str.{IsUtf8}
use Rattle.ciborium.specs.Reading.{IsLeaf}
use Rattle.ciborium.proofs.ExactSteps.{says_and, says_as, says_kept, title_front, levels_front, enc_snoc, open_array, open_map}
use Rattle.ciborium.proofs.ExactWhole.{simple_kept, simple_not}
use Rattle.ciborium.specs.Levels.{Level, Within}

-- an encoding is the title of its header, and what follows it
enc_parts : (v : Tree) → enc v ≡ title_of (head_of v) ++ behind v
enc_parts (integer i) = append_nil _
enc_parts (bytes b) = refl
enc_parts (text b) = refl
enc_parts (array ts) = refl
enc_parts (map ps) = refl
enc_parts (tag n t) = refl
enc_parts (simple n) = append_nil _
enc_parts (float f) = append_nil _

head_fits : (v : Tree) → Sound v → FitsHeader (head_of v)
head_fits (integer i) f = f
head_fits (bytes b) f = f
head_fits (text b) f = f.0
head_fits (array ts) f = f.0
head_fits (map ps) f = f.0
head_fits (tag n t) f = f.0
head_fits (simple n) f = f
head_fits (float g) f = f

head_encoded : (v : Tree) → meaning v ≡ Some v → IsEncoded (head_of v)
head_encoded (integer (pos n)) e = tt
head_encoded (integer (negsuc n)) e = tt
head_encoded (bytes b) e = tt
head_encoded (text b) e = tt
head_encoded (array ts) e = tt
head_encoded (map ps) e = tt
head_encoded (tag n t) e = tt
head_encoded (simple n) e = simple_not n e
head_encoded (float f) e = tt

-- an item that is encoded has an encoded title
pub title_exact : (h : Header) (limit : ℕ) (v : Tree) (title inner : List ℕ) → Title title h → Reads (title ++ inner) limit v → Sound v → title ++ inner ≡ enc v
    → (title ≡ title_of h) × IsEncoded h
title_exact h limit v title inner t r f e =
    let k = head_of v in
    let w = title_once title (title_of (head_of v)) inner (behind v) h (head_of v) t (title_of_is (head_of v) (head_fits v f)) (e ∙ enc_parts v) in
    (w.1 ∙ ap title_of (sym w.0), subst IsEncoded (sym w.0) (head_encoded v (means_again r.tree v r.means)))

alone : (h k : Header) (title inner : List ℕ) → Title title h → Title (title ++ inner) k → (h ≡ k) × (title ≡ title ++ inner)
alone h k title inner t s = title_once title (title ++ inner) inner [] h k t s (append_nil (title ++ inner))

-- a leaf or a string whose title is encoded is encoded
leaf_from : (h : Header) (tree v : Tree) (title inner : List ℕ) → IsLeaf h → Title title h → Spells (title ++ inner) tree → meaning tree ≡ Some v
    → title ≡ title_of h → IsEncoded h → title ++ inner ≡ enc v
leaf_from h (integer i) v title inner l t s m e c =
    let w = alone h (int_head i) title inner t s in
    let k : integer i ≡ v = cc in
    sym w.1 ∙ e ∙ ap title_of w.0 ∙ ap enc k
leaf_from h (float g) v title inner l t s m e c =
    let w = alone h (Float g) title inner t s in
    let k : float g ≡ v = cc in
    sym w.1 ∙ e ∙ ap title_of w.0 ∙ ap enc k
leaf_from h (simple n) v title inner l t s m e c =
    let w = alone h (Simple n) title inner t s in
    let not : n ≢ 23 = subst IsEncoded w.0 c in
    sym w.1 ∙ e ∙ ap title_of w.0 ∙ ap enc (simple_kept n v not m)
leaf_from h (bytes body) v title inner l t (bodies, frame, is) m e c =
    let k : bytes body ≡ v = cc in
    go bodies (title ++ inner) frame refl is ∙ ap enc k
  where
    go : (bodies : List (List ℕ)) (b : List ℕ) → Frame Bytes Any b bodies → b ≡ title ++ inner → body ≡ joined bodies → title ++ inner ≡ enc (bytes body)
    go _ _ (whole b x s q p y) z is =
        let w = title_once title s inner x h (Bytes (Some (length x))) t q (sym z ∙ y) in
        let same : inner ≡ x = append_cancel_left s inner x (ap (λ a. a ++ inner) (sym w.1) ∙ sym z ∙ y) in
        let body_is : body ≡ x = is ∙ sym (append_nil x) in
        ap (λ a. title ++ a) same ∙ ap (λ a. a ++ x) (e ∙ ap title_of w.0) ∙ ap (λ a. enc (bytes a)) (sym body_is)
    go _ _ (cut b x s bs q p y) z is =
        let w = title_once title s inner (x ++ 255 ∷ []) h (Bytes None) t q (sym z ∙ y ∙ append_assoc s x (255 ∷ [])) in
        absurd (subst IsEncoded w.0 c)
leaf_from h (text body) v title inner l t (bodies, frame, is) m e c =
    let k : text body ≡ v = cc in
    go bodies (title ++ inner) frame refl is ∙ ap enc k
  where
    go : (bodies : List (List ℕ)) (b : List ℕ) → Frame Text IsUtf8 b bodies → b ≡ title ++ inner → body ≡ joined bodies → title ++ inner ≡ enc (text body)
    go _ _ (whole b x s q p y) z is =
        let w = title_once title s inner x h (Text (Some (length x))) t q (sym z ∙ y) in
        let same : inner ≡ x = append_cancel_left s inner x (ap (λ a. a ++ inner) (sym w.1) ∙ sym z ∙ y) in
        let body_is : body ≡ x = is ∙ sym (append_nil x) in
        ap (λ a. title ++ a) same ∙ ap (λ a. a ++ x) (e ∙ ap title_of w.0) ∙ ap (λ a. enc (text a)) (sym body_is)
    go _ _ (cut b x s bs q p y) z is =
        let w = title_once title s inner (x ++ 255 ∷ []) h (Text None) t q (sym z ∙ y ∙ append_assoc s x (255 ∷ [])) in
        absurd (subst IsEncoded w.0 c)
leaf_from h (array ts) v title inner l t (inl (s, x, q, p, y)) m e c = let w = title_once title s inner x h (Array (Some (tree_count ts))) t q y in absurd (subst IsLeaf w.0 l)
leaf_from h (array ts) v title inner l t (inr (s, x, q, p, y)) m e c = let w = title_once title s inner (x ++ 255 ∷ []) h (Array None) t q y in absurd (subst IsLeaf w.0 l)
leaf_from h (map ps) v title inner l t (inl (s, x, q, p, y)) m e c = let w = title_once title s inner x h (Map (Some (pair_count ps))) t q y in absurd (subst IsLeaf w.0 l)
leaf_from h (map ps) v title inner l t (inr (s, x, q, p, y)) m e c = let w = title_once title s inner (x ++ 255 ∷ []) h (Map None) t q y in absurd (subst IsLeaf w.0 l)
leaf_from h (tag n u) v title inner l t (s, x, q, p, y) m e c = let w = title_once title s inner x h (Tag n) t q y in absurd (subst IsLeaf w.0 l)

pub leaf_exact : (w : Bool) (h : Header) (limit : ℕ) (v : Tree) (title inner : List ℕ) → IsLeaf h → Title title h → Reads (title ++ inner) limit v → Sound v
    → Says w ((title ≡ title_of h) × IsEncoded h) → Says w (title ++ inner ≡ enc v)
leaf_exact w h limit v title inner l t r f p =
    says_as w ((title ≡ title_of h) × IsEncoded h) (title ++ inner ≡ enc v) (λ x. leaf_from h r.tree v title inner l t r.spells r.means x.0 x.1)
    (λ e. title_exact h limit v title inner t r f e) p

-- TURNS. A title is taken: `u` is the decoder's flag, `s` that of the header.
pub turn_titled : (w u s : Bool) (fs : List Level) (h : Header) (b title : List ℕ) → Says w (LevelsExact fs b) → Says u (title ≡ title_of h) → Says s (IsEncoded h)
    → Says (w && (u && s)) (TitleExact fs h b title)
turn_titled w u s fs h b title p q r = says_as (w && (u && s)) (LevelsExact fs b × ((title ≡ title_of h) × IsEncoded h)) (TitleExact fs h b title)
    (λ x. (x.0, x.1.0, x.1.1)) (λ x. (x.0, (x.1, x.2))) (says_and w (u && s) (LevelsExact fs b) ((title ≡ title_of h) × IsEncoded h) p (says_and u s (title ≡ title_of h) (IsEncoded h) q r))

-- it opens a level
pub turn_opened : (w : Bool) (limit : ℕ) (fs : List Level) (h : Header) (b title : List ℕ) → Within limit fs b → AllFit fs → Title title h → FitsHeader h
    → Says w (TitleExact fs h b title) → Says w (LevelsExact (record { head = h; done = no_trees } ∷ fs) (b ++ title))
turn_opened w limit fs h b title within fit t fh p =
    says_as w (TitleExact fs h b title) (LevelsExact (record { head = h; done = no_trees } ∷ fs) (b ++ title))
    (λ x. ((x.0.0, x.2), ap (λ z. z ++ title) x.0.1 ∙ ap (λ z. levels_enc fs ++ z) (x.1 ∙ append_nil (title_of h))))
    (λ x. let k = levels_front limit fs b title (level_enc h no_trees) within fit x.1 in ((x.0.0, k.0), k.1 ∙ sym (append_nil (title_of h)), x.0.1)) p

-- an item that was read in one piece
pub turn_leaf : (w : Bool) (limit low : ℕ) (fs : List Level) (h : Header) (v : Tree) (b title inner : List ℕ) → Within limit fs b → AllFit fs → IsLeaf h → Title title h
    → Reads (title ++ inner) low v → Sound v → Says w (TitleExact fs h b title) → Says w (ItemExact fs v (b ++ (title ++ inner)))
turn_leaf w limit low fs h v b title inner within fit l t r f p =
    says_as w (TitleExact fs h b title) (ItemExact fs v (b ++ (title ++ inner)))
    (λ x. (x.0.0, ap (λ z. z ++ (title ++ inner)) x.0.1 ∙ ap (λ z. levels_enc fs ++ z) (leaf_from h r.tree v title inner l t r.spells r.means x.1 x.2)))
    (λ x. let k = levels_front limit fs b (title ++ inner) (enc v) within fit x.1 in let c = title_exact h low v title inner t r f k.1 in ((x.0, k.0), c.0, c.1)) p

-- it is handed to an array or a map
pub turn_handed : (w : Bool) (fs : List Level) (f : Level) (v : Tree) (b : List ℕ) → Says w (ItemExact (f ∷ fs) v b) → Says w (LevelsExact (record { head = f.head; done = snoc f.done v } ∷ fs) b)
turn_handed w fs f v b p =
    says_as w (ItemExact (f ∷ fs) v b) (LevelsExact (record { head = f.head; done = snoc f.done v } ∷ fs) b) (λ x. (x.0, x.1 ∙ grown)) (λ x. (x.0, x.1 ∙ sym grown)) p
  where
    grown : levels_enc (f ∷ fs) ++ enc v ≡ levels_enc fs ++ level_enc f.head (snoc f.done v)
    grown = append_assoc (levels_enc fs) (level_enc f.head f.done) (enc v)
        ∙ ap (λ z. levels_enc fs ++ z) (append_assoc (title_of f.head) (enc_all f.done) (enc v) ∙ ap (λ z. title_of f.head ++ z) (sym (enc_snoc f.done v)))

-- an array or a map of a definite length ends: no byte is taken
pub turn_closed : (w : Bool) (fs : List Level) (f : Level) (v : Tree) (b : List ℕ) → IsEncoded f.head → level_enc f.head f.done ≡ enc v
    → Says w (LevelsExact (f ∷ fs) b) → Says w (ItemExact fs v b)
turn_closed w fs f v b s e p =
    says_as w (LevelsExact (f ∷ fs) b) (ItemExact fs v b) (λ x. (x.0.0, x.1 ∙ ap (λ z. levels_enc fs ++ z) e)) (λ x. ((x.0, s), x.1 ∙ ap (λ z. levels_enc fs ++ z) (sym e))) p

-- an open one ends, after its break: the flag was false, and stays so
pub turn_array_broken : (w : Bool) (limit : ℕ) (fs : List Level) (vs : Trees) (b title inner : List ℕ) → Within limit fs b → AllFit fs → Title title (Array None) → tree_count vs < 2 ^ 64
    → Says w (LevelsExact (record { head = Array None; done = vs } ∷ fs) (b ++ (title ++ inner))) → Says w (ItemExact fs (array vs) (b ++ (title ++ (inner ++ 255 ∷ []))))
turn_array_broken w limit fs vs b title inner within fit t few p =
    says_as w (LevelsExact (record { head = Array None; done = vs } ∷ fs) (b ++ (title ++ inner))) (ItemExact fs (array vs) (b ++ (title ++ (inner ++ 255 ∷ []))))
    (λ x. absurd x.0.1)
    (λ x. let k = levels_front limit fs b (title ++ (inner ++ 255 ∷ [])) (enc (array vs)) within fit x.1 in absurd (open_array title (inner ++ 255 ∷ []) vs t few k.1)) p

pub turn_map_broken : (w : Bool) (limit : ℕ) (fs : List Level) (ps : Pairs) (b title inner : List ℕ) → Within limit fs b → AllFit fs → Title title (Map None) → pair_count ps < 2 ^ 64
    → Says w (LevelsExact (record { head = Map None; done = flat ps } ∷ fs) (b ++ (title ++ inner))) → Says w (ItemExact fs (map ps) (b ++ (title ++ (inner ++ 255 ∷ []))))
turn_map_broken w limit fs ps b title inner within fit t few p =
    says_as w (LevelsExact (record { head = Map None; done = flat ps } ∷ fs) (b ++ (title ++ inner))) (ItemExact fs (map ps) (b ++ (title ++ (inner ++ 255 ∷ []))))
    (λ x. absurd x.0.1)
    (λ x. let k = levels_front limit fs b (title ++ (inner ++ 255 ∷ [])) (enc (map ps)) within fit x.1 in absurd (open_map title (inner ++ 255 ∷ []) ps t few k.1)) p

-- the content of a tag is in hand: the tag is folded, and `w'` tells whether it stays
pub turn_folded : (w w' : Bool) (limit low : ℕ) (fs : List Level) (n : ℕ) (c v : Tree) (b title inner : List ℕ) → Within limit fs b → AllFit fs → Title title (Tag n) → n < 2 ^ 64
    → Reads inner low c → tagged n c ≡ Some v → Sound v
    → Says w (ItemExact (record { head = Tag n; done = no_trees } ∷ fs) c ((b ++ title) ++ inner)) → IsKept n c v w w' → Says w' (ItemExact fs v ((b ++ title) ++ inner))
turn_folded w w' limit low fs n c v b title inner within fit t fn r folds fv p q =
    says_as w' (ItemExact (record { head = Tag n; done = no_trees } ∷ fs) c ((b ++ title) ++ inner) × (v ≡ tag n c)) (ItemExact fs v ((b ++ title) ++ inner))
    (λ x. (x.0.0.0, x.0.1 ∙ whole_is ∙ ap (λ z. levels_enc fs ++ enc z) (sym x.1)))
    (λ x. back x.0 x.1)
    (says_kept w w' (ItemExact (record { head = Tag n; done = no_trees } ∷ fs) c ((b ++ title) ++ inner)) (v ≡ tag n c) p q)
  where
    whole_is : (levels_enc fs ++ level_enc (Tag n) no_trees) ++ enc c ≡ levels_enc fs ++ enc (tag n c)
    whole_is = append_assoc (levels_enc fs) (level_enc (Tag n) no_trees) (enc c) ∙ ap (λ z. levels_enc fs ++ (z ++ enc c)) (sym (append_nil (title_of (Tag n))))

    back : AllEncoded fs → (b ++ title) ++ inner ≡ levels_enc fs ++ enc v → ItemExact (record { head = Tag n; done = no_trees } ∷ fs) c ((b ++ title) ++ inner) × (v ≡ tag n c)
    back all e =
        let k = levels_front limit fs b (title ++ inner) (enc v) within fit (sym (append_assoc b title inner) ∙ e) in
        let spelled : Spells (title ++ inner) (tag n r.tree) = (title, inner, t, r.spells, refl) in
        let m0 : meaning (tag n r.tree) ≡ Some v = ap (option_and_then (tagged n)) r.means ∙ folds in
        let w = once (tag n r.tree) v (title ++ inner) (enc v) [] [] spelled (sound_spells v fv) (ap (λ z. z ++ []) k.1) in
        let m : meaning (tag n r.tree) ≡ Some (tag n r.tree) = m0 ∙ ap Some (sym w.0) in
        let o = then_some (tagged n) (meaning r.tree) (tag n r.tree) m in
        let i : r.tree ≡ o.0 = over_itself n o.0 r.tree o.1 o.2 in
        let j : Some o.0 ≡ Some c = sym o.1 ∙ r.means in
        let l : o.0 ≡ c = cc in
        let is : v ≡ tag n c = sym w.0 ∙ ap (tag n) (i ∙ l) in
        (((all, tt), e ∙ ap (λ z. levels_enc fs ++ enc z) is ∙ sym whole_is), is)

-- the encoding of a definite array or map that has all its items
pub array_enc : (n : ℕ) (vs : Trees) → n ≡ tree_count vs → level_enc (Array (Some n)) vs ≡ enc (array vs)
array_enc n vs e = ap (λ z. title_of (Array (Some z)) ++ enc_all vs) e

flat_enc : (ps : Pairs) → enc_all (flat ps) ≡ enc_pairs ps
flat_enc no_pairs = refl
flat_enc (pair_more k v ps) = ap (λ z. enc k ++ (enc v ++ z)) (flat_enc ps)

pub map_enc : (n : ℕ) (ps : Pairs) → n ≡ pair_count ps → level_enc (Map (Some n)) (flat ps) ≡ enc (map ps)
map_enc n ps e = ap (λ z. title_of (Map (Some z)) ++ enc_all (flat ps)) e ∙ ap (λ z. title_of (Map (Some (pair_count ps))) ++ z) (flat_enc ps)

-- a tag over its content is encoded only if its title and its content are, and it stays
pub tag_back : (limit n : ℕ) (c v : Tree) (title inner : List ℕ) → Title title (Tag n) → n < 2 ^ 64 → Reads inner limit c → tagged n c ≡ Some v → Sound v → title ++ inner ≡ enc v
    → (title ≡ title_of (Tag n)) × ((inner ≡ enc c) × (v ≡ tag n c))
tag_back limit n c v title inner t fn r folds fv e =
    let spelled : Spells (title ++ inner) (tag n r.tree) = (title, inner, t, r.spells, refl) in
    let m0 : meaning (tag n r.tree) ≡ Some v = ap (option_and_then (tagged n)) r.means ∙ folds in
    let w = once (tag n r.tree) v (title ++ inner) (enc v) [] [] spelled (sound_spells v fv) (ap (λ z. z ++ []) e) in
    let m : meaning (tag n r.tree) ≡ Some (tag n r.tree) = m0 ∙ ap Some (sym w.0) in
    let o = then_some (tagged n) (meaning r.tree) (tag n r.tree) m in
    let i : r.tree ≡ o.0 = over_itself n o.0 r.tree o.1 o.2 in
    let j : Some o.0 ≡ Some c = sym o.1 ∙ r.means in
    let l : o.0 ≡ c = cc in
    let f = title_front (Tag n) title inner (enc r.tree) t fn (e ∙ ap enc (sym w.0)) in
    (f.0, (f.1 ∙ ap enc (i ∙ l), sym w.0 ∙ ap (tag n) (i ∙ l)))

-- a bignum that was read after its tag, in one piece: the tag opens no level
pub turn_bignum : (w w' : Bool) (limit low : ℕ) (fs : List Level) (n : ℕ) (c v : Tree) (b title inner : List ℕ) → Within limit fs b → AllFit fs → Title title (Tag n) → n < 2 ^ 64
    → Reads inner low c → tagged n c ≡ Some v → Sound v
    → Says w (TitleExact fs (Tag n) b title × (inner ≡ enc c)) → IsKept n c v w w' → Says w' (ItemExact fs v (b ++ (title ++ inner)))
turn_bignum w w' limit low fs n c v b title inner within fit t fn r folds fv p q =
    says_as w' ((TitleExact fs (Tag n) b title × (inner ≡ enc c)) × (v ≡ tag n c)) (ItemExact fs v (b ++ (title ++ inner)))
    (λ x. (x.0.0.0.0, ap (λ z. z ++ (title ++ inner)) x.0.0.0.1 ∙ ap (λ z. levels_enc fs ++ (z ++ inner)) x.0.0.1 ∙ ap (λ z. levels_enc fs ++ (title_of (Tag n) ++ z)) x.0.1 ∙ ap (λ z. levels_enc fs ++ enc z) (sym x.1)))
    (λ x. let k = levels_front limit fs b (title ++ inner) (enc v) within fit x.1 in
    let c = tag_back low n c v title inner t fn r folds fv k.1 in
    ((((x.0, k.0), c.0, tt), c.1.0), c.1.1))
    (says_kept w w' (TitleExact fs (Tag n) b title × (inner ≡ enc c)) (v ≡ tag n c) p q)

-- no level is open any more
pub turn_done : (w : Bool) (v : Tree) (b : List ℕ) → Says w (ItemExact [] v b) → Says w (b ≡ enc v)
turn_done w v b p = says_as w (ItemExact [] v b) (b ≡ enc v) (λ x. x.1) (λ x. (tt, x)) p

-- over anything but a byte string a tag stays
pub plain_stays : (n : ℕ) (c v : Tree) → ((b : List ℕ) → c ≡ bytes b → ⊥) → tagged n c ≡ Some v → v ≡ tag n c
plain_stays n (bytes b) v not e = absurd (not b refl)
plain_stays n (integer i) v not e = cc
plain_stays n (text b) v not e = cc
plain_stays n (array ts) v not e = cc
plain_stays n (map ps) v not e = cc
plain_stays n (tag k t) v not e = cc
plain_stays n (simple k) v not e = cc
plain_stays n (float f) v not e = cc
