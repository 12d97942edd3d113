-- What bytes spell, and what that means, is no heavier than the bytes are long.
use Rattle.std.proofs.Common.{◌≡◌, ℕ, ◌+◌, ◌≤◌, inl, inr, List, [], ◌∷◌, ◌++◌, length, map, Bool, true, false, cond, Option, Some, None, option_map, option_and_then, sym, ap, subst, arith, length-append}
use Rattle.std.specs.Prelude.{nat_eq, nat_lt, nat_le, ◌||◌, ◌&&◌, pos, negsuc}
use Rattle.ciborium_ll.specs.declared.hdr.Header.{Header}
use Rattle.ciborium_ll.specs.declared.hdr.Header.TheVariants.{Bytes, Text, Array, Map, Tag, Simple}
use Rattle.ciborium_ll.specs.declared.hdr.Header.TheVariants as head
use Rattle.ciborium_ll.specs.Title.{Title}
use Rattle.ciborium_ll.specs.Framing.{Frame, Frames, whole, cut, no_frames, frame_more, joined}
use Rattle.ciborium_ll.proofs.Walk.{title_some}
use Rattle.ciborium_value.specs.Tree.{Tree, integer, bytes, text, array, map as map_tree, tag, simple, float, Trees, no_trees, one_more, Pairs, no_pairs, pair_more}
use Rattle.ciborium_value.specs.View.{trees, view}
use Rattle.ciborium_value.specs.declared.value.Value.{Value}
use Rattle.ciborium_value.specs.Folding.{fold_by, fold_all_by, fold_pairs_by, fold_bytes, fold_number, tagged, big_endian_from, without_zeros}
use Rattle.ciborium_value.specs.Encoding.{int_head}
use Rattle.ciborium.specs.Front.{Reads}
use Rattle.ciborium.specs.Meaning.{simple_meaning}
use Rattle.ciborium.specs.Spelling.{Spells, SpellsAll, SpellsPairs, Around}
use Rattle.coset_headers.specs.Weight.{weight, weight_all, weight_pairs}

title_long : (b : List ℕ) (h : Header) → Title b h → 1 ≤ length b
title_long b h t = let s = title_some h b t in omega (arith, s)

joined_length : (xs ys : List (List ℕ)) → length (joined (xs ++ ys)) ≡ length (joined xs) + length (joined ys)
joined_length [] ys = let e : 0 + length (joined ys) ≡ length (joined ys) = omega arith in sym e
joined_length (x ∷ xs) ys =
    let h = joined_length xs ys in let m = length-append x (joined (xs ++ ys)) in let n = length-append x (joined xs) in omega (arith, h, m, n)

mutual
  frame_long : (k : Option ℕ → Header) (P : List ℕ → Type 0) (b : List ℕ) (xs : List (List ℕ)) → Frame k P b xs → 1 + length (joined xs) ≤ length b
  frame_long k P b xs (whole _ body title t p e) =
      let n = title_long title _ t in let m = ap length e in
      omega (arith, n, m, length-append title body, length-append body [])
  frame_long k P b xs (cut _ inner title bodies t f e) =
      let n = title_long title _ t in let i = frames_long k P inner bodies f in let m = ap length e in
      omega (arith, n, m, i, length-append (title ++ inner) (255 ∷ []), length-append title inner, length-append title (inner ++ 255 ∷ []), length-append inner (255 ∷ []))

  frames_long : (k : Option ℕ → Header) (P : List ℕ → Type 0) (b : List ℕ) (xs : List (List ℕ)) → Frames k P b xs → length (joined xs) ≤ length b
  frames_long k P b xs no_frames = omega arith
  frames_long k P b xs (frame_more a c ys zs f g) =
      let n = frame_long k P a ys f in let m = frames_long k P c zs g in
      omega (arith, n, m, length-append a c, joined_length ys zs)

around_long : (k : Option ℕ → Header) (n w : ℕ) (b : List ℕ) (Inner : List ℕ → Type 0) → ((c : List ℕ) → Inner c → w ≤ length c) → Around k n b Inner → 1 + w ≤ length b
around_long k n w b Inner f (inl (title, c, t, i, e)) = let g = f c i in let m = ap length e in omega (arith, g, m, title_long title _ t, length-append title c)
around_long k n w b Inner f (inr (title, c, t, i, e)) = let g = f c i in let m = ap length e in omega (arith, g, m, title_long title _ t, length-append title (c ++ 255 ∷ []), length-append c (255 ∷ []))

mutual
  spells_long : (t : Tree) (b : List ℕ) → Spells b t → weight t ≤ length b
  spells_long (integer i) b s = title_long b (int_head i) s
  spells_long (bytes c) b s = let n = frame_long Bytes _ b s.0 s.1 in let m = ap length s.2 in omega (arith, n, m)
  spells_long (text c) b s = let n = frame_long Text _ b s.0 s.1 in let m = ap length s.2 in omega (arith, n, m)
  spells_long (array ts) b s = around_long Array _ _ b _ (λ c i. all_long ts c i) s
  spells_long (map_tree ps) b s = around_long Map _ _ b _ (λ c i. pairs_long ps c i) s
  spells_long (tag n t) b s = let h = spells_long t s.1 s.3 in let m = ap length s.4 in omega (arith, h, m, title_long s.0 (Tag n) s.2, length-append s.0 s.1)
  spells_long (simple n) b s = title_long b (Simple n) s
  spells_long (float f) b s = title_long b (head.Float f) s

  all_long : (ts : Trees) (b : List ℕ) → SpellsAll b ts → weight_all ts ≤ length b
  all_long no_trees b s = omega arith
  all_long (one_more t ts) b s = let h = spells_long t s.0 s.2 in let k = all_long ts s.1 s.3 in let m = ap length s.4 in omega (arith, h, k, m, length-append s.0 s.1)

  pairs_long : (ps : Pairs) (b : List ℕ) → SpellsPairs b ps → weight_pairs ps ≤ length b
  pairs_long no_pairs b s = omega arith
  pairs_long (pair_more k v ps) b s =
      let h = spells_long k s.0 s.3 in let j = spells_long v s.1 s.4 in let r = pairs_long ps s.2 s.5 in let m = ap length s.6 in
      omega (arith, h, j, r, m, length-append s.0 (s.1 ++ s.2), length-append s.1 s.2)

pub weight_pos : (t : Tree) → 1 ≤ weight t
weight_pos (integer i) = omega arith
weight_pos (bytes b) = omega arith
weight_pos (text b) = omega arith
weight_pos (array ts) = omega arith
weight_pos (map_tree ps) = omega arith
weight_pos (tag n t) = omega arith
weight_pos (simple n) = omega arith
weight_pos (float f) = omega arith

-- folding makes nothing heavier
abbrev IsLight : Option Tree → ℕ → Type 0
IsLight None w = Unit {0}
IsLight (Some t) w = weight t ≤ w

abbrev AreLight : Option Trees → ℕ → Type 0
AreLight None w = Unit {0}
AreLight (Some ts) w = weight_all ts ≤ w

abbrev PairsLight : Option Pairs → ℕ → Type 0
PairsLight None w = Unit {0}
PairsLight (Some ps) w = weight_pairs ps ≤ w

cond_light : (c : Bool) (x y : Option Tree) (w : ℕ) → IsLight x w → IsLight y w → IsLight (cond c x y) w
cond_light true x y w a b = a
cond_light false x y w a b = b

cond_short : (c : Bool) (xs ys : List ℕ) (n : ℕ) → length xs ≤ n → length ys ≤ n → length (cond c xs ys) ≤ n
cond_short true xs ys n a b = a
cond_short false xs ys n a b = b

zeros_short : (b : List ℕ) → length (without_zeros b) ≤ length b
zeros_short [] = omega arith
zeros_short (x ∷ xs) =
    let h = zeros_short xs in
    cond_short (nat_eq x 0) (without_zeros xs) (x ∷ xs) (length (x ∷ xs)) (omega (arith, h)) (omega arith)

bytes_light : (n : ℕ) (b : List ℕ) (w : ℕ) → 1 + length b ≤ w → IsLight (tagged n (bytes b)) (1 + w)
bytes_light n b w e =
    let z = zeros_short b in
    let m : ℕ = big_endian_from 0 b in
    let short : Option Tree = cond (nat_eq n 3 && nat_le 170141183460469231731687303715884105728 m) None (Some (tag n (bytes (without_zeros b)))) in
    cond_light (nat_eq n 2 || nat_eq n 3) (fold_bytes n b) (Some (tag n (bytes b))) (1 + w)
    (cond_light (nat_le (length b) 16) (fold_number n m b) (Some (tag n (bytes b))) (1 + w)
    (cond_light (nat_lt m 18446744073709551616) (Some (integer (cond (nat_eq n 2) (pos m) (negsuc m)))) short (1 + w) (omega (arith, e))
    (cond_light (nat_eq n 3 && nat_le 170141183460469231731687303715884105728 m) None (Some (tag n (bytes (without_zeros b)))) (1 + w) tt (omega (arith, e, z))))
    (omega (arith, e)))
    (omega (arith, e))

tag_light : (n : ℕ) (u : Tree) (w : ℕ) → weight u ≤ w → IsLight (tagged n u) (1 + w)
tag_light n (integer i) w e = omega (arith, e)
tag_light n (bytes b) w e = bytes_light n b w e
tag_light n (text b) w e = omega (arith, e)
tag_light n (array ts) w e = omega (arith, e)
tag_light n (map_tree ps) w e = omega (arith, e)
tag_light n (tag m t) w e = omega (arith, e)
tag_light n (simple m) w e = omega (arith, e)
tag_light n (float f) w e = omega (arith, e)

tagged_light : (n : ℕ) (o : Option Tree) (w : ℕ) → IsLight o w → IsLight (option_and_then (tagged n) o) (1 + w)
tagged_light n None w e = tt
tagged_light n (Some u) w e = tag_light n u w e

array_light : (o : Option Trees) (w : ℕ) → AreLight o w → IsLight (option_map array o) (1 + w)
array_light None w e = tt
array_light (Some ts) w e = omega (arith, e)

map_light : (o : Option Pairs) (w : ℕ) → PairsLight o w → IsLight (option_map map_tree o) (1 + w)
map_light None w e = tt
map_light (Some ps) w e = omega (arith, e)

more_light : (o : Option Tree) (p : Option Trees) (w v : ℕ) → IsLight o w → AreLight p v → AreLight (option_and_then (λ u. option_map (one_more u) p) o) (w + v)
more_light None p w v a b = tt
more_light (Some u) None w v a b = tt
more_light (Some u) (Some ts) w v a b = omega (arith, a, b)

pair_light : (o q : Option Tree) (p : Option Pairs) (w v u : ℕ) → IsLight o w → IsLight q v → PairsLight p u
    → PairsLight (option_and_then (λ a. option_and_then (λ b. option_map (pair_more a b) p) q) o) (w + (v + u))
pair_light None q p w v u a b c = tt
pair_light (Some k) None p w v u a b c = tt
pair_light (Some k) (Some x) None w v u a b c = tt
pair_light (Some k) (Some x) (Some ps) w v u a b c = omega (arith, a, b, c)

module _ (s : ℕ → Option Tree) (light : (n : ℕ) → IsLight (s n) 1) where
  mutual
    fold_light : (t : Tree) → IsLight (fold_by s t) (weight t)
    fold_light (integer i) = omega arith
    fold_light (bytes b) = omega arith
    fold_light (text b) = omega arith
    fold_light (array ts) = array_light (fold_all_by s ts) (weight_all ts) (folds_light ts)
    fold_light (map_tree ps) = map_light (fold_pairs_by s ps) (weight_pairs ps) (fold_pairs_light ps)
    fold_light (tag n t) = tagged_light n (fold_by s t) (weight t) (fold_light t)
    fold_light (simple n) = light n
    fold_light (float f) = omega arith

    folds_light : (ts : Trees) → AreLight (fold_all_by s ts) (weight_all ts)
    folds_light no_trees = omega arith
    folds_light (one_more t ts) = more_light (fold_by s t) (fold_all_by s ts) (weight t) (weight_all ts) (fold_light t) (folds_light ts)

    fold_pairs_light : (ps : Pairs) → PairsLight (fold_pairs_by s ps) (weight_pairs ps)
    fold_pairs_light no_pairs = omega arith
    fold_pairs_light (pair_more k v ps) =
        pair_light (fold_by s k) (fold_by s v) (fold_pairs_by s ps) (weight k) (weight v) (weight_pairs ps) (fold_light k) (fold_light v) (fold_pairs_light ps)

simple_light : (n : ℕ) → IsLight (simple_meaning n) 1
simple_light n =
    cond_light (nat_eq n 23) (Some (simple 22)) (cond (nat_le 20 n && nat_le n 22) (Some (simple n)) None) 1 (omega arith)
    (cond_light (nat_le 20 n && nat_le n 22) (Some (simple n)) None 1 (omega arith) tt)

pub reads_long : (b : List ℕ) (n : ℕ) (v : Tree) → Reads b n v → weight v ≤ length b
reads_long b n v r =
    let h = spells_long r.tree b r.spells in
    let l : IsLight (Some v) (weight r.tree) = subst (λ o. IsLight o (weight r.tree)) r.means (fold_light simple_meaning simple_light r.tree) in
    omega (arith, h, l)

-- an item among others weighs no more than all
pub weight_among : (xs ys : List Value) (x : Value) → weight (view x) ≤ weight_all (trees (map view (xs ++ x ∷ ys)))
weight_among [] ys x = omega arith
weight_among (z ∷ zs) ys x = let h : weight (view x) ≤ weight_all (trees (map view (zs ++ x ∷ ys))) = weight_among zs ys x in omega arith
