-- An item that is spelled narrowly means a tree whose encoding is no longer.
use Rattle.std.proofs.Common.{◌≡◌, ◌≢◌, ℕ, pos, negsuc, ◌+◌, ◌*◌, ◌^◌, ◌<◌, ◌≤◌, ◌⊎◌, inl, inr, List, [], ◌∷◌, ◌++◌, length, Bool, true, false, cond, Option, Some, None, option_map, option_and_then, refl, sym, ap, subst, ◌∙◌, arith, append-nil, length-append}
use Rattle.std.specs.Prelude.{All, nat_eq, nat_lt, nat_le, ◌||◌, ◌&&◌}
use Rattle.std.specs.Str.{IsUtf8}
use Rattle.std.proofs.lemmas.Bool.{cases_eq, cases_lt, eqb-true, leb-true}
use Rattle.std.proofs.lemmas.List.Elements.{All-head, All-tail}
use Rattle.ciborium_ll.specs.declared.hdr.Header.{Header}
use Rattle.ciborium_ll.specs.declared.hdr.Header.TheVariants.{Simple, Tag, Bytes, Text, Array, Map}
use Rattle.ciborium_ll.specs.declared.hdr.Header.TheVariants as head
use Rattle.ciborium_ll.specs.Title.{Title, title_of, shortest}
use Rattle.ciborium_ll.specs.Framing.{Frame, Frames, whole, cut, no_frames, frame_more, joined, Any}
use Rattle.ciborium_ll.proofs.Shortest.{shortest_first}
use Rattle.ciborium_ll.proofs.Walk.{title_some}
use Rattle.ciborium_value.specs.Tree.{Tree, integer, bytes, text, array, map as map_tree, tag, simple, float, Trees, no_trees, one_more, Pairs, no_pairs, pair_more, tree_count, pair_count}
use Rattle.ciborium_value.specs.Folding.{fold_by, fold_all_by, fold_pairs_by, fold_bytes, fold_number, tagged, big_endian_from, without_zeros}
use Rattle.ciborium_value.specs.Encoding.{enc, enc_all, enc_pairs, int_head}
use Rattle.ciborium_value.proofs.Stripped.{strip_short}
use Rattle.ciborium.specs.Front.{Reads}
use Rattle.ciborium.specs.Meaning.{meaning, simple_meaning}
use Rattle.ciborium.specs.Spelling.{Spells, SpellsAll, SpellsPairs}
use Rattle.ciborium.proofs.Once.{once}
use Rattle.ciborium.proofs.TagLemmas.{bytes_meant}
use Rattle.coset_headers.proofs.Entered.{bool_cases}
use Rattle.cose_gate_core.specs.Narrow.{AroundFew, ShortString, IsShortTag, SpellsNarrow, SpellsAllNarrow, SpellsPairsNarrow}
use Rattle.cose_gate_core.proofs.Lows.{IsByte, before, behind, Low, LowAll, LowPairs, spells_low}
use Rattle.cose_gate_core.proofs.Widths.{width, width_is, at_most, at_least, wider}

-- ---- it is a spelling
string_spells : (k : Option ℕ → Header) (P : List ℕ → Type 0) (b body : List ℕ) → ShortString k P b body → (bodies : List (List ℕ)) × Frame k P b bodies × (body ≡ joined bodies)
string_spells k P b body (inl (title, t, p, e)) = (body ∷ [], whole b body title t p e, sym (append-nil body))
string_spells k P b body (inr (few, s)) = s

mutual
  narrow_spells : (t : Tree) (b : List ℕ) → SpellsNarrow b t → Spells b t
  narrow_spells (integer i) b s = s
  narrow_spells (bytes c) b s = string_spells Bytes Any b c s
  narrow_spells (text c) b s = string_spells Text IsUtf8 b c s
  narrow_spells (array ts) b (inl (title, inner, t, i, e)) = inl (title, inner, t, all_spells ts inner i, e)
  narrow_spells (array ts) b (inr (few, (title, inner, t, i, e))) = inr (title, inner, t, all_spells ts inner i, e)
  narrow_spells (map_tree ps) b (inl (title, inner, t, i, e)) = inl (title, inner, t, pairs_spells ps inner i, e)
  narrow_spells (map_tree ps) b (inr (few, (title, inner, t, i, e))) = inr (title, inner, t, pairs_spells ps inner i, e)
  narrow_spells (tag n t) b s = (s.0, s.1, s.2, narrow_spells t s.1 s.3, s.4)
  narrow_spells (simple n) b s = s
  narrow_spells (float f) b s = s

  all_spells : (ts : Trees) (b : List ℕ) → SpellsAllNarrow b ts → SpellsAll b ts
  all_spells no_trees b s = s
  all_spells (one_more t ts) b s = (s.0, s.1, narrow_spells t s.0 s.2, all_spells ts s.1 s.3, s.4)

  pairs_spells : (ps : Pairs) (b : List ℕ) → SpellsPairsNarrow b ps → SpellsPairs b ps
  pairs_spells no_pairs b s = s
  pairs_spells (pair_more k v ps) b s = (s.0, s.1, s.2, narrow_spells k s.0 s.3, narrow_spells v s.1 s.4, pairs_spells ps s.2 s.5, s.6)

-- ---- strings
title_long : (b : List ℕ) (h : Header) → Title b h → 1 ≤ length b
title_long b h t = let s = title_some h b t in omega (arith, s)

joined_length : (xs ys : List (List ℕ)) → length (joined (xs ++ ys)) ≡ length (joined xs) + length (joined ys)
joined_length [] ys = let e : 0 + length (joined ys) ≡ length (joined ys) = omega arith in sym e
joined_length (x ∷ xs) ys =
    let h = joined_length xs ys in let m = length-append x (joined (xs ++ ys)) in let n = length-append x (joined xs) in omega (arith, h, m, n)

-- how many bytes b has beside the bodies: three or more, or enough for all of them
record Over (b : List ℕ) (xs : List (List ℕ)) : Type 0 where
  over : ℕ
  is : length b ≡ length (joined xs) + over
  wide : (3 ≤ over) ⊎ (length (joined xs) ≤ 255 * over)

both_wide : (a c n m : ℕ) → (3 ≤ a) ⊎ (n ≤ 255 * a) → (3 ≤ c) ⊎ (m ≤ 255 * c) → (3 ≤ a + c) ⊎ (n + m ≤ 255 * (a + c))
both_wide a c n m (inl p) q = inl (omega (arith, p))
both_wide a c n m (inr p) (inl q) = inl (omega (arith, q))
both_wide a c n m (inr p) (inr q) = inr (omega (arith, p, q))

wider_over : (a n k : ℕ) → (3 ≤ a) ⊎ (n ≤ 255 * a) → (3 ≤ a + k) ⊎ (n ≤ 255 * (a + k))
wider_over a n k (inl p) = inl (omega (arith, p))
wider_over a n k (inr p) = inr (omega (arith, p))

module _ (k : Option ℕ → Header) (P : List ℕ → Type 0) (major : ℕ) (heads : (n : ℕ) → length (title_of (k (Some n))) ≡ width n) where
  whole_wide : (title : List ℕ) (n : ℕ) → Title title (k (Some n)) → (n < 256) ⊎ (256 ≤ n) → (3 ≤ length title) ⊎ (n ≤ 255 * length title)
  whole_wide title n t (inl l) = let s = title_long title (k (Some n)) t in inr (omega (arith, l, s))
  whole_wide title n t (inr l) =
      let s = shortest_first title (k (Some n)) t in let w = heads n in let r = (at_least n).from_256 (omega (arith, l)) in inl (omega (arith, s, w, r))

  size_cases : (n : ℕ) → (n < 256) ⊎ (256 ≤ n)
  size_cases n = cases_lt n 256

  mutual
    frame_over : (b : List ℕ) (xs : List (List ℕ)) → Frame k P b xs → Over b xs
    frame_over b xs (whole _ body title t p e) =
        let m = ap length e in
        let one : length (joined (body ∷ [])) ≡ length body = ap length (append-nil body) in
        record {
          over = length title;
          is = omega (arith, m, one, length-append title body);
          wide = subst (λ n. (3 ≤ length title) ⊎ (n ≤ 255 * length title)) (sym one) (whole_wide title (length body) t (size_cases (length body)));
        }
    frame_over b xs (cut _ inner title bodies t f e) =
        let o = frames_over inner bodies f in
        let m = ap length e in
        let i = o.is in
        let s = title_long title (k None) t in
        record {
          over = o.over + (length title + 1);
          is = omega (arith, m, i, length-append (title ++ inner) (255 ∷ []), length-append title inner);
          wide = wider_over o.over (length (joined bodies)) (length title + 1) o.wide;
        }

    frames_over : (b : List ℕ) (xs : List (List ℕ)) → Frames k P b xs → Over b xs
    frames_over b xs no_frames = record { over = 0; is = omega arith; wide = inr (omega arith) }
    frames_over b xs (frame_more a c ys zs f g) =
        let o = frame_over a ys f in
        let q = frames_over c zs g in
        let i = o.is in let j = q.is in
        let l = joined_length ys zs in
        record {
          over = o.over + q.over;
          is = omega (arith, i, j, l, length-append a c);
          wide = subst (λ n. (3 ≤ o.over + q.over) ⊎ (n ≤ 255 * (o.over + q.over))) (sym l) (both_wide o.over q.over (length (joined ys)) (length (joined zs)) o.wide q.wide);
        }

  from_over : (over n : ℕ) → n < 2 ^ 32 → (3 ≤ over) ⊎ (n ≤ 255 * over) → width n ≤ 2 + over
  from_over over n few (inl w) = at_most n (2 + over) (omega arith) (λ l. omega arith) (λ l. omega (arith, w)) (λ l. omega (arith, w)) (λ l. absurd (omega (arith, l, few)))
  from_over over n few (inr w) = at_most n (2 + over) (omega arith) (λ l. omega arith) (λ l. omega (arith, w, l)) (λ l. omega (arith, w, l)) (λ l. absurd (omega (arith, l, few)))

  frame_short : (b : List ℕ) (xs : List (List ℕ)) → length (joined xs) < 2 ^ 32 → Frame k P b xs → width (length (joined xs)) + length (joined xs) ≤ length b
  frame_short b xs few (whole _ body title t p e) =
      let m = ap length e in
      let one : length (joined (body ∷ [])) ≡ length body = ap length (append-nil body) in
      let s = shortest_first title (k (Some (length body))) t in
      let w = heads (length body) in
      let same : width (length (joined (body ∷ []))) ≡ width (length body) = ap width one in
      omega (arith, m, one, s, w, same, length-append title body)
  frame_short b xs few (cut _ inner title bodies t f e) =
      let o = frames_over inner bodies f in
      let w = from_over o.over (length (joined bodies)) few o.wide in
      let m = ap length e in
      let i = o.is in
      let s = title_long title (k None) t in
      omega (arith, w, m, i, s, length-append (title ++ inner) (255 ∷ []), length-append title inner)

  string_small : (b body : List ℕ) → ShortString k P b body → width (length body) + length body ≤ length b
  string_small b body (inl (title, t, p, e)) =
      let m = ap length e in let s = shortest_first title (k (Some (length body))) t in let w = heads (length body) in
      omega (arith, m, s, w, length-append title body)
  string_small b body (inr (few, (bodies, f, e))) =
      let same : length body ≡ length (joined bodies) = ap length e in
      let w = frame_short b bodies (omega (arith, few, same)) f in
      let v : width (length body) ≡ width (length (joined bodies)) = ap width same in
      omega (arith, same, w, v)

-- ---- bignums
big_width : (c : List ℕ) → All IsByte c → length c ≢ 5 → length c ≢ 6 → width (big_endian_from 0 c) ≤ 2 + length c
big_width [] low a b = at_most 0 2 (omega arith) (λ l. omega arith) (λ l. absurd (omega arith)) (λ l. absurd (omega arith)) (λ l. absurd (omega arith))
big_width (x ∷ []) low a b =
    let p : x < 256 = All-head IsByte x [] low in
    let e : big_endian_from 0 (x ∷ []) ≡ 256 * 0 + x = refl in
    at_most (256 * 0 + x) 3 (omega arith) (λ l. omega arith) (λ l. omega arith) (λ l. absurd (omega (arith, l, p))) (λ l. absurd (omega (arith, l, p)))
big_width (x ∷ y ∷ []) low a b =
    let p : x < 256 = All-head IsByte x (y ∷ []) low in
    let low1 = All-tail IsByte x (y ∷ []) low in
    let q : y < 256 = All-head IsByte y [] low1 in
    at_most (256 * (256 * 0 + x) + y) 4 (omega arith) (λ l. omega arith) (λ l. omega arith) (λ l. absurd (omega (arith, l, p, q))) (λ l. absurd (omega (arith, l, p, q)))
big_width (x ∷ y ∷ z ∷ []) low a b =
    let p : x < 256 = All-head IsByte x (y ∷ z ∷ []) low in
    let low1 = All-tail IsByte x (y ∷ z ∷ []) low in
    let q : y < 256 = All-head IsByte y (z ∷ []) low1 in
    let low2 = All-tail IsByte y (z ∷ []) low1 in
    let r : z < 256 = All-head IsByte z [] low2 in
    at_most (256 * (256 * (256 * 0 + x) + y) + z) 5 (omega arith) (λ l. omega arith) (λ l. omega arith) (λ l. omega arith) (λ l. absurd (omega (arith, l, p, q, r)))
big_width (x ∷ y ∷ z ∷ v ∷ []) low a b =
    let p : x < 256 = All-head IsByte x (y ∷ z ∷ v ∷ []) low in
    let low1 = All-tail IsByte x (y ∷ z ∷ v ∷ []) low in
    let q : y < 256 = All-head IsByte y (z ∷ v ∷ []) low1 in
    let low2 = All-tail IsByte y (z ∷ v ∷ []) low1 in
    let r : z < 256 = All-head IsByte z (v ∷ []) low2 in
    let low3 = All-tail IsByte z (v ∷ []) low2 in
    let s : v < 256 = All-head IsByte v [] low3 in
    at_most (256 * (256 * (256 * (256 * 0 + x) + y) + z) + v) 6 (omega arith) (λ l. omega arith) (λ l. omega arith) (λ l. omega arith) (λ l. absurd (omega (arith, l, p, q, r, s)))
big_width (x ∷ y ∷ z ∷ v ∷ w ∷ []) low a b = absurd (a refl)
big_width (x ∷ y ∷ z ∷ v ∷ w ∷ u ∷ []) low a b = absurd (b refl)
big_width (x ∷ y ∷ z ∷ v ∷ w ∷ u ∷ m ∷ xs) low a b =
    at_most (big_endian_from 0 (x ∷ y ∷ z ∷ v ∷ w ∷ u ∷ m ∷ xs)) (2 + length (x ∷ y ∷ z ∷ v ∷ w ∷ u ∷ m ∷ xs)) (omega arith) (λ l. omega arith) (λ l. omega arith) (λ l. omega arith) (λ l. omega arith)

-- ---- what is meant is no longer than the bytes
abbrev IsSmall : Option Tree → ℕ → Type 0
IsSmall None w = Unit {0}
IsSmall (Some t) w = length (enc t) ≤ w

abbrev AllSmall : Option Trees → ℕ → ℕ → Type 0
AllSmall None n w = Unit {0}
AllSmall (Some ts) n w = (tree_count ts ≡ n) × (length (enc_all ts) ≤ w)

abbrev PairsSmall : Option Pairs → ℕ → ℕ → Type 0
PairsSmall None n w = Unit {0}
PairsSmall (Some ps) n w = (pair_count ps ≡ n) × (length (enc_pairs ps) ≤ w)

cond_small : (c : Bool) (x y : Option Tree) (w : ℕ) → IsSmall x w → IsSmall y w → IsSmall (cond c x y) w
cond_small true x y w a b = a
cond_small false x y w a b = b

small_more : (o : Option Tree) (v w : ℕ) → v ≤ w → IsSmall o v → IsSmall o w
small_more None v w l s = tt
small_more (Some t) v w l s = omega (arith, l, s)

sign_small : (c : Bool) (m w : ℕ) → width m ≤ w → length (enc (integer (cond c (pos m) (negsuc m)))) ≤ w
sign_small true m w l = let e = width_is 0 m in omega (arith, e, l)
sign_small false m w l = let e = width_is 1 m in omega (arith, e, l)

and_right : (a b : Bool) → (a && b) ≡ true → b ≡ true
and_right true b e = e
and_right false b e = let h : false ≡ true = e in cc

ne_false : (a b : ℕ) → (a ≡ b → ⊥) → nat_eq a b ≡ false
ne_false a b f = go (bool_cases (nat_eq a b))
  where
    go : (nat_eq a b ≡ true) ⊎ (nat_eq a b ≡ false) → nat_eq a b ≡ false
    go (inl e) = absurd (f (eqb-true a b e))
    go (inr e) = e

low_of : (n : ℕ) → (nat_le 20 n && nat_le n 22) ≡ true → n ≤ 22
low_of n e = leb-true n 22 (and_right (nat_le 20 n) (nat_le n 22) e)

two_or_three : (n : ℕ) → (nat_eq n 2 || nat_eq n 3) ≡ true → (n ≡ 2) ⊎ (n ≡ 3)
two_or_three n e = go (cases_eq n 2) (cases_eq n 3)
  where
    go : (n ≡ 2) ⊎ (n ≡ 2 → ⊥) → (n ≡ 3) ⊎ (n ≡ 3 → ⊥) → (n ≡ 2) ⊎ (n ≡ 3)
    go (inl a) b = inl a
    go (inr a) (inl b) = inr b
    go (inr a) (inr b) =
        let f : nat_eq n 2 ≡ false = ne_false n 2 a in
        let g : nat_eq n 3 ≡ false = ne_false n 3 b in
        let h : true ≡ false = sym e ∙ (λ i. f i || g i) in cc

cond_by : (c : Bool) (x y : Option Tree) (w : ℕ) → (c ≡ true → IsSmall x w) → IsSmall y w → IsSmall (cond c x y) w
cond_by true x y w a b = a refl
cond_by false x y w a b = b

-- a tag over the bytes c, whose head is not longer than h, and which are spelled in i bytes
tagged_bytes : (n h i : ℕ) (c : List ℕ) → All IsByte c → ((n ≡ 2) ⊎ (n ≡ 3) → (length c ≢ 5) × (length c ≢ 6)) → length (shortest 6 n) ≤ h → 1 ≤ h → width (length c) + length c ≤ i → IsSmall (tagged n (bytes c)) (h + i)
tagged_bytes n h i c low short t one s =
    let m : ℕ = big_endian_from 0 c in
    let z = without_zeros c in
    let less = strip_short c in
    let w = wider (length z) (length c) less in
    let e = width_is 2 (length c) in
    let f = width_is 2 (length z) in
    let lc = length-append (shortest 2 (length c)) c in
    let lz = length-append (shortest 2 (length z)) z in
    let tc = length-append (shortest 6 n) (enc (bytes c)) in
    let tz = length-append (shortest 6 n) (enc (bytes z)) in
    let as_is : length (enc (tag n (bytes c))) ≤ h + i = omega (arith, t, s, e, lc, tc) in
    let stripped : length (enc (tag n (bytes z))) ≤ h + i = omega (arith, t, s, w, less, f, lz, tz) in
    let some : 1 ≤ width (length c) = (at_least (length c)).from_0 in
    cond_by (nat_eq n 2 || nat_eq n 3) (fold_bytes n c) (Some (tag n (bytes c))) (h + i)
    (λ which.
    let q = short (two_or_three n which) in
    let b = big_width c low q.0 q.1 in
    cond_small (nat_le (length c) 16) (fold_number n m c) (Some (tag n (bytes c))) (h + i)
    (cond_small (nat_lt m 18446744073709551616) (Some (integer (cond (nat_eq n 2) (pos m) (negsuc m)))) (cond (nat_eq n 3 && nat_le 170141183460469231731687303715884105728 m) None (Some (tag n (bytes z)))) (h + i)
    (sign_small (nat_eq n 2) m (h + i) (omega (arith, b, s, some, one)))
    (cond_small (nat_eq n 3 && nat_le 170141183460469231731687303715884105728 m) None (Some (tag n (bytes z))) (h + i) tt stripped))
    as_is)
    as_is

other_tag : (n h i : ℕ) (t : Tree) → length (shortest 6 n) ≤ h → length (enc t) ≤ i → length (enc (tag n t)) ≤ h + i
other_tag n h i t a b = omega (arith, a, b, length-append (shortest 6 n) (enc t))

tagged_small : (n h i : ℕ) (u : Tree) → length (shortest 6 n) ≤ h → 1 ≤ h → length (enc u) ≤ i
    → ((c : List ℕ) → u ≡ bytes c → All IsByte c × ((n ≡ 2) ⊎ (n ≡ 3) → (length c ≢ 5) × (length c ≢ 6))) → IsSmall (tagged n u) (h + i)
tagged_small n h i (bytes c) a one b f =
    let q = f c refl in
    tagged_bytes n h i c q.0 q.1 a one (let e = width_is 2 (length c) in omega (arith, b, e, length-append (shortest 2 (length c)) c))
tagged_small n h i (integer x) a one b f = other_tag n h i (integer x) a b
tagged_small n h i (text x) a one b f = other_tag n h i (text x) a b
tagged_small n h i (array x) a one b f = other_tag n h i (array x) a b
tagged_small n h i (map_tree x) a one b f = other_tag n h i (map_tree x) a b
tagged_small n h i (tag m x) a one b f = other_tag n h i (tag m x) a b
tagged_small n h i (simple x) a one b f = other_tag n h i (simple x) a b
tagged_small n h i (float x) a one b f = other_tag n h i (float x) a b

-- the folding of t is o
folded_tag : (n h i : ℕ) (t : Tree) (o : Option Tree) → meaning t ≡ o → length (shortest 6 n) ≤ h → 1 ≤ h → IsSmall o i → Low t → IsShortTag n t → IsSmall (option_and_then (tagged n) o) (h + i)
folded_tag n h i t None e a one b low s = tt
folded_tag n h i t (Some u) e a one b low s =
    tagged_small n h i u a one b (λ c q.
    let same : t ≡ bytes c = bytes_meant t c (e ∙ ap Some q) in
    (subst Low same low, λ which. s c same which))

array_small : (o : Option Trees) (n w v : ℕ) → AllSmall o n v → width n + v ≤ w → IsSmall (option_map array o) w
array_small None n w v a l = tt
array_small (Some ts) n w v a l =
    let c : width (tree_count ts) ≡ width n = ap width a.0 in let e = width_is 4 (tree_count ts) in let s = a.1 in
    omega (arith, c, e, s, l, length-append (shortest 4 (tree_count ts)) (enc_all ts))

map_small : (o : Option Pairs) (n w v : ℕ) → PairsSmall o n v → width n + v ≤ w → IsSmall (option_map map_tree o) w
map_small None n w v a l = tt
map_small (Some ps) n w v a l =
    let c : width (pair_count ps) ≡ width n = ap width a.0 in let e = width_is 5 (pair_count ps) in let s = a.1 in
    omega (arith, c, e, s, l, length-append (shortest 5 (pair_count ps)) (enc_pairs ps))

more_small : (o : Option Tree) (p : Option Trees) (n w v : ℕ) → IsSmall o w → AllSmall p n v → AllSmall (option_and_then (λ u. option_map (one_more u) p) o) (1 + n) (w + v)
more_small None p n w v a b = tt
more_small (Some u) None n w v a b = tt
more_small (Some u) (Some ts) n w v a b = let c = b.0 in let s = b.1 in (omega (arith, c), omega (arith, a, s, length-append (enc u) (enc_all ts)))

pair_small : (o q : Option Tree) (p : Option Pairs) (n w v u : ℕ) → IsSmall o w → IsSmall q v → PairsSmall p n u
    → PairsSmall (option_and_then (λ a. option_and_then (λ b. option_map (pair_more a b) p) q) o) (1 + n) (w + (v + u))
pair_small None q p n w v u a b c = tt
pair_small (Some k) None p n w v u a b c = tt
pair_small (Some k) (Some x) None n w v u a b c = tt
pair_small (Some k) (Some x) (Some ps) n w v u a b c =
    let d = c.0 in let s = c.1 in
    (omega (arith, d), omega (arith, a, b, s, length-append (enc k) (enc x ++ enc_pairs ps), length-append (enc x) (enc_pairs ps)))

-- the head of a list and what it holds
around_small : (k : Option ℕ → Header) (heads : (n : ℕ) → length (title_of (k (Some n))) ≡ width n) (n : ℕ) (b : List ℕ) (Inner : List ℕ → Type 0) (A : Type 0)
    → ((w : ℕ) (inner : List ℕ) → Inner inner → All IsByte inner → width n + length inner ≤ w → w ≡ length b → A) → AroundFew k n b Inner → All IsByte b → A
around_small k heads n b Inner A f (inl (title, inner, t, i, e)) low =
    let m = ap length e in let s = shortest_first title (k (Some n)) t in let w = heads n in
    f (length b) inner i (behind b title inner e low) (omega (arith, m, s, w, length-append title inner)) refl
around_small k heads n b Inner A f (inr (few, (title, inner, t, i, e))) low =
    let m = ap length e in let s = title_long title (k None) t in
    let w : width n ≤ 2 = at_most n 2 (omega arith) (λ l. omega arith) (λ l. absurd (omega (arith, l, few))) (λ l. absurd (omega (arith, l, few))) (λ l. absurd (omega (arith, l, few))) in
    f (length b) inner i (before (inner ++ 255 ∷ []) inner (255 ∷ []) refl (behind b title (inner ++ 255 ∷ []) e low))
    (omega (arith, m, s, w, length-append title (inner ++ 255 ∷ []), length-append inner (255 ∷ []))) refl

simple_small : (n w : ℕ) → 1 ≤ w → IsSmall (simple_meaning n) w
simple_small n w l = go (bool_cases (nat_eq n 23)) (bool_cases (nat_le 20 n && nat_le n 22))
  where
    few : (m : ℕ) → m < 24 → length (enc (simple m)) ≤ w
    few m k =
        let e = width_is 7 m in
        let s : width m ≤ 1 = at_most m 1 (omega arith) (λ h. absurd (omega (arith, h, k))) (λ h. absurd (omega (arith, h, k))) (λ h. absurd (omega (arith, h, k))) (λ h. absurd (omega (arith, h, k))) in
        omega (arith, e, s, l)

    go : (nat_eq n 23 ≡ true) ⊎ (nat_eq n 23 ≡ false) → ((nat_le 20 n && nat_le n 22) ≡ true) ⊎ ((nat_le 20 n && nat_le n 22) ≡ false) → IsSmall (simple_meaning n) w
    go (inl a) b = subst (λ c. IsSmall (cond c (Some (simple 22)) (cond (nat_le 20 n && nat_le n 22) (Some (simple n)) None)) w) (sym a) (few 22 (omega arith))
    go (inr a) (inl b) =
        let up : n ≤ 22 = low_of n b in
        subst (λ c. IsSmall (cond c (Some (simple 22)) (cond (nat_le 20 n && nat_le n 22) (Some (simple n)) None)) w) (sym a)
        (subst (λ c. IsSmall (cond c (Some (simple n)) None) w) (sym b) (few n (omega (arith, up))))
    go (inr a) (inr b) =
        subst (λ c. IsSmall (cond c (Some (simple 22)) (cond (nat_le 20 n && nat_le n 22) (Some (simple n)) None)) w) (sym a)
        (subst (λ c. IsSmall (cond c (Some (simple n)) None) w) (sym b) tt)

mutual
  narrow_small : (t : Tree) (b : List ℕ) → SpellsNarrow b t → All IsByte b → Low t → IsSmall (fold_by simple_meaning t) (length b)
  narrow_small (integer i) b s low l = shortest_first b (int_head i) s
  narrow_small (bytes c) b s low l =
      let w = string_small Bytes Any 2 (width_is 2) b c s in let e = width_is 2 (length c) in omega (arith, w, e, length-append (shortest 2 (length c)) c)
  narrow_small (text c) b s low l =
      let w = string_small Text IsUtf8 3 (width_is 3) b c s in let e = width_is 3 (length c) in omega (arith, w, e, length-append (shortest 3 (length c)) c)
  narrow_small (array ts) b s low l =
      around_small Array (width_is 4) (tree_count ts) b (λ inner. SpellsAllNarrow inner ts) (IsSmall (option_map array (fold_all_by simple_meaning ts)) (length b))
      (λ w inner i h k e. array_small (fold_all_by simple_meaning ts) (tree_count ts) (length b) (length inner) (all_small ts inner i h l) (omega (arith, k, e))) s low
  narrow_small (map_tree ps) b s low l =
      around_small Map (width_is 5) (pair_count ps) b (λ inner. SpellsPairsNarrow inner ps) (IsSmall (option_map map_tree (fold_pairs_by simple_meaning ps)) (length b))
      (λ w inner i h k e. map_small (fold_pairs_by simple_meaning ps) (pair_count ps) (length b) (length inner) (pairs_small ps inner i h l) (omega (arith, k, e))) s low
  narrow_small (tag n t) b s low l =
      let m = ap length s.4 in
      let inner = narrow_small t s.1 s.3 (behind b s.0 s.1 s.4 low) l.1 in
      let o = folded_tag n (length s.0) (length s.1) t (fold_by simple_meaning t) refl (shortest_first s.0 (Tag n) s.2) (title_long s.0 (Tag n) s.2) inner l.1 s.5 in
      small_more (option_and_then (tagged n) (fold_by simple_meaning t)) (length s.0 + length s.1) (length b) (omega (arith, m, length-append s.0 s.1)) o
  narrow_small (simple n) b s low l = simple_small n (length b) (title_long b (Simple n) s)
  narrow_small (float f) b s low l = shortest_first b (head.Float f) s

  all_small : (ts : Trees) (b : List ℕ) → SpellsAllNarrow b ts → All IsByte b → LowAll ts → AllSmall (fold_all_by simple_meaning ts) (tree_count ts) (length b)
  all_small no_trees b s low l = (refl, omega arith)
  all_small (one_more t ts) b s low l =
      let m = ap length s.4 in
      let size : length s.0 + length s.1 ≡ length b = omega (arith, m, length-append s.0 s.1) in
      subst (λ w. AllSmall (fold_all_by simple_meaning (one_more t ts)) (1 + tree_count ts) w) size
      (more_small (fold_by simple_meaning t) (fold_all_by simple_meaning ts) (tree_count ts) (length s.0) (length s.1)
      (narrow_small t s.0 s.2 (before b s.0 s.1 s.4 low) l.0) (all_small ts s.1 s.3 (behind b s.0 s.1 s.4 low) l.1))

  pairs_small : (ps : Pairs) (b : List ℕ) → SpellsPairsNarrow b ps → All IsByte b → LowPairs ps → PairsSmall (fold_pairs_by simple_meaning ps) (pair_count ps) (length b)
  pairs_small no_pairs b s low l = (refl, omega arith)
  pairs_small (pair_more k v ps) b s low l =
      let m = ap length s.6 in
      let size : length s.0 + (length s.1 + length s.2) ≡ length b = omega (arith, m, length-append s.0 (s.1 ++ s.2), length-append s.1 s.2) in
      let rest = behind b s.0 (s.1 ++ s.2) s.6 low in
      subst (λ w. PairsSmall (fold_pairs_by simple_meaning (pair_more k v ps)) (1 + pair_count ps) w) size
      (pair_small (fold_by simple_meaning k) (fold_by simple_meaning v) (fold_pairs_by simple_meaning ps) (pair_count ps) (length s.0) (length s.1) (length s.2)
      (narrow_small k s.0 s.3 (before b s.0 (s.1 ++ s.2) s.6 low) l.0) (narrow_small v s.1 s.4 (before (s.1 ++ s.2) s.1 s.2 refl rest) l.1)
      (pairs_small ps s.2 s.5 (behind (s.1 ++ s.2) s.1 s.2 refl rest) l.2))

-- what is read of it
pub narrow_reads : (b : List ℕ) (n : ℕ) (v t : Tree) → Reads b n v → SpellsNarrow b t → All IsByte b → length (enc v) ≤ length b
narrow_reads b n v t r s low =
    let sp = narrow_spells t b s in
    let same : r.tree ≡ t = (once r.tree t b b [] [] r.spells sp refl).0 in
    let m : meaning t ≡ Some v = ap meaning (sym same) ∙ r.means in
    subst (λ o. IsSmall o (length b)) m (narrow_small t b s low (spells_low t b sp low))
