-- What is read of fewer than 2^64 bytes has an encoding that spells it.
use Rattle.std.proofs.Common.{◌≡◌, ◌≤◌, ◌<◌, ℕ, ℤ, pos, negsuc, suc, ◌+◌, ◌-◌, ◌^◌, Bool, true, false, cond, inl, inr, List, [], ◌∷◌, ◌++◌, length, Option, Some, None, refl, sym, ap, subst, ◌∙◌, arith, nat_eq, nat_lt, nat_le, ◌&&◌, ◌||◌, length-append}
use Rattle.std.proofs.lemmas.Bool.{ltb-true, leb-true, and_parts}
use Rattle.std.specs.Option.{option_map, option_and_then}
use Rattle.std.specs.Str.{IsUtf8}
use Rattle.std.proofs.lemmas.Str.{IsUtf8-append, IsUtf8-nil}
use Rattle.ciborium_ll.specs.declared.hdr.Header.{Header}
use Rattle.ciborium_ll.specs.declared.hdr.Header.TheVariants.{Positive, Negative, Simple, Tag, Bytes, Text, Array, Map}
use Rattle.ciborium_ll.specs.declared.hdr.Header.TheVariants as head
use Rattle.ciborium_ll.specs.declared.hdr.Float.{Float as FloatBits}
use Rattle.ciborium_ll.specs.declared.hdr.Float.TheVariants.{Half, Single, Double}
use Rattle.ciborium_ll.specs.Title.{Title, title_of, NumberAt, FitsHeader, FitsLen, Sized}
use Rattle.ciborium_ll.specs.Title.NumberAt.{direct, one, two, four, eight}
use Rattle.ciborium_ll.specs.Framing.{Frame, Frames, whole, cut, no_frames, frame_more, joined, Any}
use Rattle.ciborium_ll.proofs.Shortest.{title_of_is}
use Rattle.ciborium_value.specs.Tree.{Tree, integer, bytes, text, array, map, tag, simple, float, Trees, no_trees, one_more, Pairs, no_pairs, pair_more, tree_count, pair_count}
use Rattle.ciborium_value.specs.Encoding.{int_head, enc, enc_all, enc_pairs}
use Rattle.ciborium_value.specs.Folding.{tagged, fold_bytes, fold_number, big_endian_from, without_zeros}
use Rattle.ciborium.specs.Spelling.{Spells, SpellsAll, SpellsPairs}
use Rattle.ciborium.specs.Meaning.{meaning, meanings, pair_meanings, simple_meaning}
use Rattle.ciborium.specs.Front.{Reads, ReadsAll}
use Rattle.ciborium.proofs.Once.{append_nil, first}
use Rattle.ciborium.proofs.StringLemmas.{title_some, joined_append}
use Rattle.ciborium.proofs.ReadLemmas.{meanings_parts}
use Rattle.ciborium.proofs.Folded.{pairs_parts}
use Rattle.ciborium.specs.Exact.{Sound, AllSound, PairsSound, AllFit}
use Rattle.ciborium.specs.Levels.{Level, Within}

mutual
  pub sound_spells : (t : Tree) → Sound t → Spells (enc t) t
  sound_spells (integer i) f = title_of_is (int_head i) f
  sound_spells (bytes b) f = (b ∷ [], whole _ b (title_of (Bytes (Some (length b)))) (title_of_is (Bytes (Some (length b))) f) tt refl, append_nil b)
  sound_spells (text b) f = (b ∷ [], whole _ b (title_of (Text (Some (length b)))) (title_of_is (Text (Some (length b))) f.0) f.1 refl, append_nil b)
  sound_spells (array ts) f = inl (title_of (Array (Some (tree_count ts))), enc_all ts, title_of_is (Array (Some (tree_count ts))) f.0, all_spell ts f.1, refl)
  sound_spells (map ps) f = inl (title_of (Map (Some (pair_count ps))), enc_pairs ps, title_of_is (Map (Some (pair_count ps))) f.0, pairs_spell ps f.1, refl)
  sound_spells (tag n t) f = (title_of (Tag n), enc t, title_of_is (Tag n) f.0, sound_spells t f.1, refl)
  sound_spells (simple n) f = title_of_is (Simple n) f
  sound_spells (float w) f = title_of_is (head.Float w) f

  all_spell : (ts : Trees) → AllSound ts → SpellsAll (enc_all ts) ts
  all_spell no_trees f = refl
  all_spell (one_more t ts) f = (enc t, enc_all ts, sound_spells t f.0, all_spell ts f.1, refl)

  pairs_spell : (ps : Pairs) → PairsSound ps → SpellsPairs (enc_pairs ps) ps
  pairs_spell no_pairs f = refl
  pairs_spell (pair_more k v ps) f = (enc k, enc v, enc_pairs ps, sound_spells k f.0, sound_spells v f.1, pairs_spell ps f.2, refl)

split_len : (b x y : List ℕ) → b ≡ x ++ y → length b ≡ length x + length y
split_len b x y e = ap length e ∙ length-append x y

pub spelled_some : (t : Tree) (b : List ℕ) → Spells b t → 0 < length b
spelled_some t b s =
    let f = first t b s in
    let l : length b ≡ length f.title + length f.rest = split_len b f.title f.rest f.whole_is in
    let m : 0 < length f.title = title_some f.title f.head f.is_title in
    omega arith

number_fits : (info : ℕ) (more : List ℕ) (n : ℕ) → NumberAt info more n → n < 2 ^ 64
number_fits info more n (direct lt is e) = omega arith
number_fits info more n (one is lt e) = omega arith
number_fits info more n (two is lt e) = omega arith
number_fits info more n (four is lt e) = omega arith
number_fits info more n (eight is lt e) = lt

float_fits : (f : FloatBits) (b : List ℕ) → Title b (head.Float f) → FitsHeader (head.Float f)
float_fits (Half n) b t = half 25 refl t.0 t.2
  where
    half : (info : ℕ) → info ≡ 25 → (more : List ℕ) → NumberAt info more n → n < 2 ^ 16
    half info i more (direct lt is e) = omega arith
    half info i more (one is lt e) = absurd (omega arith)
    half info i more (two is lt e) = lt
    half info i more (four is lt e) = absurd (omega arith)
    half info i more (eight is lt e) = absurd (omega arith)
float_fits (Single n) b t = single 26 refl t.0 t.2
  where
    single : (info : ℕ) → info ≡ 26 → (more : List ℕ) → NumberAt info more n → n < 2 ^ 32
    single info i more (direct lt is e) = omega arith
    single info i more (one is lt e) = absurd (omega arith)
    single info i more (two is lt e) = absurd (omega arith)
    single info i more (four is lt e) = lt
    single info i more (eight is lt e) = absurd (omega arith)
float_fits (Double n) b t = number_fits 27 t.0 n t.2

mutual
  frame_len : (k : Option ℕ → Header) (P : List ℕ → Type 0) (b : List ℕ) (xs : List (List ℕ)) → Frame k P b xs → length (joined xs) ≤ length b
  frame_len k P _ _ (whole b body title t p e) =
      let l : length b ≡ length title + length body = split_len b title body e in
      let j : length body ≡ length (body ++ []) = ap length (append_nil body) in
      omega arith
  frame_len k P _ _ (cut b inner title xs t fs e) =
      let l : length b ≡ length (title ++ inner) + 1 = split_len b (title ++ inner) (255 ∷ []) e in
      let m : length (title ++ inner) ≡ length title + length inner = length-append title inner in
      let h : length (joined xs) ≤ length inner = frames_len k P inner xs fs in
      omega arith

  frames_len : (k : Option ℕ → Header) (P : List ℕ → Type 0) (b : List ℕ) (xs : List (List ℕ)) → Frames k P b xs → length (joined xs) ≤ length b
  frames_len k P _ _ no_frames = omega arith
  frames_len k P _ _ (frame_more a b xs ys f fs) =
      let l : length (a ++ b) ≡ length a + length b = length-append a b in
      let j : length (joined (xs ++ ys)) ≡ length (joined xs) + length (joined ys) = ap length (joined_append xs ys) ∙ length-append (joined xs) (joined ys) in
      let x : length (joined xs) ≤ length a = frame_len k P a xs f in
      let y : length (joined ys) ≤ length b = frames_len k P b ys fs in
      omega arith

mutual
  frame_utf8 : (k : Option ℕ → Header) (b : List ℕ) (xs : List (List ℕ)) → Frame k IsUtf8 b xs → IsUtf8 (joined xs)
  frame_utf8 k _ _ (whole b body title t p e) = subst IsUtf8 (append_nil body) p
  frame_utf8 k _ _ (cut b inner title xs t fs e) = frames_utf8 k inner xs fs

  frames_utf8 : (k : Option ℕ → Header) (b : List ℕ) (xs : List (List ℕ)) → Frames k IsUtf8 b xs → IsUtf8 (joined xs)
  frames_utf8 k _ _ no_frames = IsUtf8-nil
  frames_utf8 k _ _ (frame_more a b xs ys f fs) = subst IsUtf8 (sym (joined_append xs ys)) (IsUtf8-append (joined xs) (joined ys) (frame_utf8 k a xs f) (frames_utf8 k b ys fs))

simple_low : (n : ℕ) (v : Tree) → simple_meaning n ≡ Some v → Sound v
simple_low n v e = go (nat_eq n 23) (nat_le 20 n && nat_le n 22) refl e
  where
    go : (p q : Bool) → (nat_le 20 n && nat_le n 22) ≡ q → cond p (Some (simple 22)) (cond q (Some (simple n)) None) ≡ Some v → Sound v
    go true q b e = let f : simple 22 ≡ v = cc in subst Sound f (omega arith)
    go false true b e = let f : simple n ≡ v = cc in subst Sound f (let h : n ≤ 22 = leb-true n 22 (and_parts (nat_le 20 n) (nat_le n 22) b).1 in omega arith)
    go false false b e = cc

zeros_len : (b : List ℕ) → length (without_zeros b) ≤ length b
zeros_len [] = omega arith
zeros_len (x ∷ xs) = go (nat_eq x 0) (zeros_len xs)
  where
    go : (p : Bool) → length (without_zeros xs) ≤ length xs → length (cond p (without_zeros xs) (x ∷ xs)) ≤ suc (length xs)
    go true h = omega arith
    go false h = omega arith

bignum_sound : (n : ℕ) (b : List ℕ) (v : Tree) → n < 2 ^ 64 → length b < 2 ^ 64 → fold_bytes n b ≡ Some v → Sound v
bignum_sound n b v low few e = small (nat_le (length b) 16) e
  where
    folds : (m : ℕ) (p q : Bool) → nat_lt m 18446744073709551616 ≡ p → cond p (Some (integer (cond (nat_eq n 2) (pos m) (negsuc m)))) (cond q None (Some (tag n (bytes (without_zeros b))))) ≡ Some v → Sound v
    folds m true q t e = sign (nat_eq n 2) (ltb-true m 18446744073709551616 t) cc
      where
        sign : (p : Bool) → m < 18446744073709551616 → integer (cond p (pos m) (negsuc m)) ≡ v → Sound v
        sign true l f = subst Sound f (omega arith)
        sign false l f = subst Sound f (omega arith)
    folds m false true t e = cc
    folds m false false t e = let f : tag n (bytes (without_zeros b)) ≡ v = cc in subst Sound f (low, (let h : length (without_zeros b) ≤ length b = zeros_len b in omega arith))

    small : (p : Bool) → cond p (fold_number n (big_endian_from 0 b) b) (Some (tag n (bytes b))) ≡ Some v → Sound v
    small true e = folds (big_endian_from 0 b) (nat_lt (big_endian_from 0 b) 18446744073709551616) (nat_eq n 3 && nat_le 170141183460469231731687303715884105728 (big_endian_from 0 b)) refl e
    small false e = let f : tag n (bytes b) ≡ v = cc in subst Sound f (low, few)

tagged_sound : (n : ℕ) (u v : Tree) → n < 2 ^ 64 → Sound u → tagged n u ≡ Some v → Sound v
tagged_sound n (integer i) v low s e = let f : tag n (integer i) ≡ v = cc in subst Sound f (low, s)
tagged_sound n (text i) v low s e = let f : tag n (text i) ≡ v = cc in subst Sound f (low, s)
tagged_sound n (array i) v low s e = let f : tag n (array i) ≡ v = cc in subst Sound f (low, s)
tagged_sound n (map i) v low s e = let f : tag n (map i) ≡ v = cc in subst Sound f (low, s)
tagged_sound n (tag k i) v low s e = let f : tag n (tag k i) ≡ v = cc in subst Sound f (low, s)
tagged_sound n (simple i) v low s e = let f : tag n (simple i) ≡ v = cc in subst Sound f (low, s)
tagged_sound n (float i) v low s e = let f : tag n (float i) ≡ v = cc in subst Sound f (low, s)
tagged_sound n (bytes b) v low s e = go (nat_eq n 2 || nat_eq n 3) e
  where
    go : (p : Bool) → cond p (fold_bytes n b) (Some (tag n (bytes b))) ≡ Some v → Sound v
    go true e = bignum_sound n b v low s e
    go false e = let f : tag n (bytes b) ≡ v = cc in subst Sound f (low, s)

inner_len : (b title inner : List ℕ) → b ≡ title ++ (inner ++ 255 ∷ []) → length inner ≤ length b
inner_len b title inner e =
    let l : length b ≡ length title + length (inner ++ 255 ∷ []) = split_len b title (inner ++ 255 ∷ []) e in
    let m : length (inner ++ 255 ∷ []) ≡ length inner + 1 = length-append inner (255 ∷ []) in
    omega arith

map_sound : {A : Type 0} (f : A → Tree) (m : Option A) (v : Tree) → ((a : A) → m ≡ Some a → Sound (f a)) → option_map f m ≡ Some v → Sound v
map_sound f None v h e = cc
map_sound f (Some a) v h e = let g : f a ≡ v = cc in subst Sound g (h a refl)

then_sound : (n : ℕ) (m : Option Tree) (v : Tree) → n < 2 ^ 64 → ((u : Tree) → m ≡ Some u → Sound u) → option_and_then (tagged n) m ≡ Some v → Sound v
then_sound n None v low h e = cc
then_sound n (Some u) v low h e = tagged_sound n u v low (h u refl) e

int_fits : (i : ℤ) (b : List ℕ) → Title b (int_head i) → FitsHeader (int_head i)
int_fits (pos n) b t = number_fits t.0 t.1.0 n t.1.2
int_fits (negsuc n) b t = number_fits t.0 t.1.0 n t.1.2

mutual
  pub spelled_sound : (t v : Tree) (b : List ℕ) → Spells b t → meaning t ≡ Some v → length b < 2 ^ 64 → Sound v
  spelled_sound (integer i) v b s e l = let f : integer i ≡ v = cc in subst Sound f (int_fits i b s)
  spelled_sound (float w) v b s e l = let f : float w ≡ v = cc in subst Sound f (float_fits w b s)
  spelled_sound (simple n) v b s e l = simple_low n v e
  spelled_sound (bytes c) v b (bodies, frame, is) e l =
      let f : bytes c ≡ v = cc in
      let h : length (joined bodies) ≤ length b = frame_len Bytes Any b bodies frame in
      let i : length c ≡ length (joined bodies) = ap length is in
      subst Sound f (omega arith)
  spelled_sound (text c) v b (bodies, frame, is) e l =
      let f : text c ≡ v = cc in
      let h : length (joined bodies) ≤ length b = frame_len Text IsUtf8 b bodies frame in
      let i : length c ≡ length (joined bodies) = ap length is in
      subst Sound f ((omega arith), subst IsUtf8 (sym is) (frame_utf8 Text b bodies frame))
  spelled_sound (array ts) v b (inl (title, inner, t, s, is)) e l =
      let k : length b ≡ length title + length inner = split_len b title inner is in
      map_sound array (meanings ts) v (λ vs m. let w = all_sound ts vs inner s m (omega arith) in (omega (arith, w.1), w.0)) e
  spelled_sound (array ts) v b (inr (title, inner, t, s, is)) e l =
      let k : length inner ≤ length b = inner_len b title inner is in
      map_sound array (meanings ts) v (λ vs m. let w = all_sound ts vs inner s m (omega arith) in (omega (arith, w.1), w.0)) e
  spelled_sound (map ps) v b (inl (title, inner, t, s, is)) e l =
      let k : length b ≡ length title + length inner = split_len b title inner is in
      map_sound map (pair_meanings ps) v (λ vs m. let w = pairs_sound ps vs inner s m (omega arith) in (omega (arith, w.1), w.0)) e
  spelled_sound (map ps) v b (inr (title, inner, t, s, is)) e l =
      let k : length inner ≤ length b = inner_len b title inner is in
      map_sound map (pair_meanings ps) v (λ vs m. let w = pairs_sound ps vs inner s m (omega arith) in (omega (arith, w.1), w.0)) e
  spelled_sound (tag n t) v b (title, inner, q, s, is) e l =
      let k : length b ≡ length title + length inner = split_len b title inner is in
      then_sound n (meaning t) v (number_fits q.0 q.1.0 n q.1.2) (λ u m. spelled_sound t u inner s m (omega arith)) e

  pub all_sound : (ts vs : Trees) (b : List ℕ) → SpellsAll b ts → meanings ts ≡ Some vs → length b < 2 ^ 64 → AllSound vs × (tree_count vs ≤ length b)
  all_sound no_trees vs b s e l = let f : no_trees ≡ vs = cc in subst (λ (z : Trees). AllSound z × (tree_count z ≤ length b)) f (tt, omega arith)
  all_sound (one_more t ts) vs b (front, rest, s, ss, is) e l =
      let k : length b ≡ length front + length rest = split_len b front rest is in
      let m = meanings_parts t ts vs e in
      let c : 0 < length front = spelled_some t front s in
      let x = spelled_sound t m.0 front s m.2 (omega arith) in
      let y = all_sound ts m.1 rest ss m.3 (omega arith) in
      let z : tree_count m.1 ≤ length rest = y.1 in
      subst (λ (z : Trees). AllSound z × (tree_count z ≤ length b)) (sym m.4) ((x, y.0), omega arith)

  pub pairs_sound : (ps vs : Pairs) (b : List ℕ) → SpellsPairs b ps → pair_meanings ps ≡ Some vs → length b < 2 ^ 64 → PairsSound vs × (pair_count vs ≤ length b)
  pairs_sound no_pairs vs b s e l = let f : no_pairs ≡ vs = cc in subst (λ (z : Pairs). PairsSound z × (pair_count z ≤ length b)) f (tt, omega arith)
  pairs_sound (pair_more k u ps) vs b (key, val, rest, s, q, ss, is) e l =
      let j : length b ≡ length key + length (val ++ rest) = split_len b key (val ++ rest) is in
      let i : length (val ++ rest) ≡ length val + length rest = length-append val rest in
      let m = pairs_parts k u ps vs e in
      let c : 0 < length key = spelled_some k key s in
      let x = spelled_sound k m.0 key s m.3 (omega arith) in
      let w = spelled_sound u m.1 val q m.4 (omega arith) in
      let y = pairs_sound ps m.2 rest ss m.5 (omega arith) in
      let z : pair_count m.2 ≤ length rest = y.1 in
      subst (λ (z : Pairs). PairsSound z × (pair_count z ≤ length b)) (sym m.6) ((x, w, y.0), omega arith)

pub reads_sound : (limit : ℕ) (v : Tree) (b : List ℕ) → Reads b limit v → length b < 2 ^ 64 → Sound v
reads_sound limit v b r l = spelled_sound r.tree v b r.spells r.means l

pub reads_all_sound : (limit : ℕ) (vs : Trees) (b : List ℕ) → ReadsAll b limit vs → length b < 2 ^ 64 → AllSound vs
reads_all_sound limit vs b r l = (all_sound r.trees vs b r.spells r.means l).0

len_fits : (major : ℕ) (o : Option ℕ) (b : List ℕ) → Sized major b o → FitsLen o
len_fits major None b t = tt
len_fits major (Some n) b t = t.0

simple_fits : (n info : ℕ) (more : List ℕ) → info < 25 → NumberAt info more n → n < 2 ^ 8
simple_fits n info more l (direct lt is e) = omega arith
simple_fits n info more l (one is lt e) = lt
simple_fits n info more l (two is lt e) = absurd (omega arith)
simple_fits n info more l (four is lt e) = absurd (omega arith)
simple_fits n info more l (eight is lt e) = absurd (omega arith)

pub title_fits : (h : Header) (b : List ℕ) → Title b h → FitsHeader h
title_fits (Positive n) b t = number_fits t.0 t.1.0 n t.1.2
title_fits (Negative n) b t = number_fits t.0 t.1.0 n t.1.2
title_fits (Tag n) b t = number_fits t.0 t.1.0 n t.1.2
title_fits (Bytes o) b t = len_fits 2 o b t
title_fits (Text o) b t = len_fits 3 o b t
title_fits (Array o) b t = len_fits 4 o b t
title_fits (Map o) b t = len_fits 5 o b t
title_fits (Simple n) b t = simple_fits n t.0 t.2.0 t.1 t.2.2
title_fits (head.Float f) b t = float_fits f b t
title_fits head.Break b t = tt

-- open levels that were read of fewer than 2^64 bytes are sound
pub within_fits : (limit : ℕ) (fs : List Level) (b : List ℕ) → Within limit fs b → length b < 2 ^ 64 → AllFit fs
within_fits limit [] b w l = tt
within_fits limit (f ∷ fs) b (x, y, within, child, room, begun, is) l =
    let k : length b ≡ length x + length y = split_len b x y is in
    let m : length y ≡ length begun.title + length begun.inner = split_len y begun.title begun.inner begun.whole in
    (within_fits limit fs x within (omega arith), title_fits f.head begun.title begun.is_title, reads_all_sound (limit - length fs - 1) f.done begun.inner begun.reads (omega arith))
